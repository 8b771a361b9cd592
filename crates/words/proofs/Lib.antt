pub mod Commands
pub mod Params
pub mod Rooms
