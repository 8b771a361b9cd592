pub mod Given
pub mod Messages
pub mod Asked
pub mod Layout
pub mod Runs
pub mod Texts
pub mod Once
