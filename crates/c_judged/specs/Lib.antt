pub mod Initializers
pub mod Declarations
pub mod Parts
pub mod Statements
pub mod Kept
pub mod Seen
pub mod Program
pub mod Aligned
