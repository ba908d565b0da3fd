-- Each tree is read back from its tokens.
pub mod Tree
pub mod Operands
pub mod Operators
pub mod Prefixes
pub mod Words
pub mod Stars
pub mod Lists
pub mod MemberLists
pub mod ParameterLists
pub mod Declarators
pub mod All
pub mod Rules
pub mod Declarations
pub mod Statements
pub mod Items
