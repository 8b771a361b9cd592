pub mod Losses
pub mod Vertices
