pub mod DeclaratorLists
pub mod ParameterLists
pub mod PointerParts
pub mod SpecifierLoop
pub mod TaggedShorter
pub mod TaggedDeclarators
pub mod TaggedMembers
pub mod TaggedEnumerators
