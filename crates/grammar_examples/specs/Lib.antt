pub mod Programs
pub mod Examples
pub mod Refusals
