pub mod Listing
pub mod Branches
pub mod Parts
pub mod NameLists
pub mod Tags
pub mod Conditions
