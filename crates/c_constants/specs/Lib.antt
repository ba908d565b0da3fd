pub mod Constants
pub mod Operators
