pub mod Varints
pub mod Numbers
pub mod Reading
pub mod Schema
pub mod Fields
