pub mod Segments
pub mod Carried
pub mod Works
pub mod Readings
pub mod Drawing
pub mod Surveyed
