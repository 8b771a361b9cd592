pub mod Good
pub mod Seen
pub mod Rolled
pub mod Odd
pub mod Keyed
pub mod Whole
pub mod Later
pub mod Beside
