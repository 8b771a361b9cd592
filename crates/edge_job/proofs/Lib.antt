pub mod Calls
pub mod Turns
pub mod Whole
pub mod Same
