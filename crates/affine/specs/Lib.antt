pub mod Grid
pub mod Mapping
pub mod Facts
pub mod Laws
