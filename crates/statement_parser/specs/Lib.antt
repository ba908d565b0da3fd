pub mod Nests
pub mod Parts
pub mod InitNests
pub mod PartList
pub mod DeclarationParts
