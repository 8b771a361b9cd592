pub mod Courses
pub mod Handling
pub mod Working
