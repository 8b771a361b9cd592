pub mod Carried
pub mod Answers
pub mod Calls
pub mod Lending
