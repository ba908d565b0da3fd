pub mod Aligned
pub mod Firsts
pub mod Joins
pub mod Lists
pub mod Steps
pub mod Views
