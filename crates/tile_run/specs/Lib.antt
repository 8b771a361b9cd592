pub mod Hands
pub mod Operations
pub mod Running
pub mod Lending
