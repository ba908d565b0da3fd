pub mod Laws
mod Values
mod Whole
