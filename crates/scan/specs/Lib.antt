pub mod Grammar
pub mod Automaton
pub mod Rest
pub mod Alive
pub mod Verdicts
pub mod Examples
pub mod Parts
