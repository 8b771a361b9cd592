pub mod Varints
pub mod Numbers
pub mod Readback
pub mod Schema
pub mod Heads
pub mod Fields
pub mod Nested
pub mod Packing
