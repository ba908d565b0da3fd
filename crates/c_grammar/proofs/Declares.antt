-- What is read declares no name that is reserved.
pub mod Apart
pub mod Expressions
pub mod Types
pub mod Declarators
