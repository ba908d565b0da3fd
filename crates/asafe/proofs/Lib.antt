pub mod Texts
pub mod Endings
pub mod Printed
pub mod Putting
