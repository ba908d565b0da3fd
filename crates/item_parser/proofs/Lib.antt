pub mod FirstCases
pub mod ItemCases
pub mod ItemLoop
pub mod OuterNames
