pub mod Laws
pub mod HighBits
pub mod Joining
pub mod Examples
