pub mod Vertices
pub mod ReadingWords
pub mod Stepping
pub mod Passing
