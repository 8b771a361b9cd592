pub mod Same
pub mod Entries
pub mod Values
pub mod Bounds
pub mod Growing
