pub mod Objects
pub mod PartOrder
pub mod FactLists
pub mod Facts
pub mod ByNumbers
