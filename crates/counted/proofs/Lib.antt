pub mod Emissions
pub mod Tallied
pub mod Pairs
pub mod Jobs
