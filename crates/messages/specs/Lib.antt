pub mod Keys
pub mod Fields
pub mod Tiles
pub mod Meaning
pub mod Examples
pub mod Asking
