pub mod Chains
pub mod Spelling
pub mod ByKind
pub mod Escapes
pub mod Lines
