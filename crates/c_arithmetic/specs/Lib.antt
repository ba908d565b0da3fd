pub mod Comparison
pub mod Conversion
pub mod Literals
pub mod Operations
pub mod Types
