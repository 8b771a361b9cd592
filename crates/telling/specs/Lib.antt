pub mod Telling
pub mod Version
