pub mod Command
pub mod Given
pub mod Jobs
pub mod Values
pub mod Table
pub mod Words
pub mod Stated
