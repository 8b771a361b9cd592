pub mod Answers
pub mod Laid
pub mod Puts
pub mod Widened
pub mod Lent
