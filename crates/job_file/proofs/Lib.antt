pub mod Taking
pub mod Surveying
