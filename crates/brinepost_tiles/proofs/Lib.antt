pub mod Carrying
pub mod Structs
pub mod Calling
pub mod NoLayer
