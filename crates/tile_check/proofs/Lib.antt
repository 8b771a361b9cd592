pub mod Asked
pub mod Rest
pub mod Counting
pub mod Checks
