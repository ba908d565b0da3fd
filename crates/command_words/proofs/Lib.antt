pub mod Found
pub mod Numbers
pub mod Walks
pub mod StatedForms
