pub mod Pointers
pub mod Nests
pub mod Infixes
pub mod Extending
pub mod Beginning
