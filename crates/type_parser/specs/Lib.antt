pub mod DeclaratorParts
pub mod ParameterList
pub mod SpecifierWords
pub mod Tagged
