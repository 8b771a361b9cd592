pub mod Finding
pub mod Bits
pub mod Heads
pub mod Answers
pub mod Steps
pub mod Packed
pub mod FeatureSteps
pub mod WordSteps
