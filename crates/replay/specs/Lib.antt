pub mod Printing
pub mod Records
