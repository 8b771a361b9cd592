pub mod Layers
pub mod Sizes
pub mod Tags
