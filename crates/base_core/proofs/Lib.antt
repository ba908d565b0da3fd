pub mod SignalNames
pub mod Prefixes
