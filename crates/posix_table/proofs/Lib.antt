pub mod Search
pub mod Sorted
pub mod KnownWords
pub mod Readable
pub mod Parts
