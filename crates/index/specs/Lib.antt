pub mod Hashes
pub mod Chains
pub mod Entries
pub mod Steps
