pub mod Compared
pub mod Few
