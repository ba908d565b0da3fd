pub mod Signals
pub mod Members
pub mod Masks
