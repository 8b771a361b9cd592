pub mod Layers
pub mod Checking
