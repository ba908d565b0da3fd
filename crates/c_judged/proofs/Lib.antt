pub mod Aligned
pub mod Joins
pub mod Alone
pub mod Named
pub mod Settled
pub mod Switched
pub mod First
