pub mod Floor
pub mod Twos
pub mod Equal
