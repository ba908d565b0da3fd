pub mod Extending
pub mod Listing
pub mod Beginning
