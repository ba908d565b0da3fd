pub mod Starts
pub mod Walked
pub mod Past
