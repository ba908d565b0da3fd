pub mod Notation
pub mod Profile
pub mod Line
pub mod Law
pub mod Table
pub mod Text
