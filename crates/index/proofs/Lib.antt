pub mod Hashing
pub mod Walking
pub mod Pushing
pub mod Alike
pub mod Scanning
pub mod Growing
pub mod Building
