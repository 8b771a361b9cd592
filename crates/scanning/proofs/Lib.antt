pub mod Digits
pub mod Phases
pub mod Turning
pub mod Living
pub mod Placing
