-- What is read is a tree of its shape that the tokens spell.
pub mod Rest
pub mod Expressions
pub mod Types
pub mod Declarators
pub mod Parameters
pub mod Declarations
pub mod Statements
pub mod Items
pub mod All
