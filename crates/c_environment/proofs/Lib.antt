mod Arrays
mod Structures
mod Counts
pub mod Starts
pub mod Alone
