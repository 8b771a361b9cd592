pub mod Opened
pub mod Values
pub mod Quoted
