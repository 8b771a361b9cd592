pub mod Values
pub mod Features
pub mod Layers
pub mod Tiles
pub mod Tags
pub mod Calls
pub mod Runs
