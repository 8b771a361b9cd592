pub mod Tellings
pub mod Structs
pub mod Carrying
pub mod NoState
pub mod SameJob
