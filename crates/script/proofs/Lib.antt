pub mod Reading
pub mod Ends
pub mod Examples
