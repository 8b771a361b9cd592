pub mod Samples
pub mod Surveys
