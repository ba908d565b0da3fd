pub mod Sites
pub mod Contexts
pub mod Order
