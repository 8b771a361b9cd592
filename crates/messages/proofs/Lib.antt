pub mod Keys
pub mod Fields
pub mod Reading
pub mod Packed
pub mod Following
pub mod Written
pub mod Chosen
