pub mod Binding
pub mod Told
pub mod Seen
