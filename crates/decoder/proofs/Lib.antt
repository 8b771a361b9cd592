pub mod Traces
pub mod Commands
pub mod Readings
pub mod Ids
pub mod Stepping
mod Examples
mod Heads
mod Steps
mod Asking
mod Pairs
mod Nexts
mod Running
mod Standing
mod Sizes
mod Decodes
