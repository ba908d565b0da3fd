pub mod Adds
pub mod Scopes
