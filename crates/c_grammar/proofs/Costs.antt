-- How many nodes and how much depth reading counts.
pub mod Counting
pub mod Steps
pub mod Numbers
pub mod Expressions
pub mod Types
pub mod Declarators
pub mod Declarations
pub mod Statements
pub mod Items
pub mod All
