pub mod Word
pub mod Kind
pub mod Matching
pub mod View
pub mod Weight
