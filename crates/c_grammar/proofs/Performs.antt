-- Each rule reads what code reads that performs its body.
pub mod Steps
pub mod Expressions
pub mod Types
pub mod Declarators
pub mod Statements
pub mod Rules
