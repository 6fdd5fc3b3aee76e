pub mod Writes
pub mod Rewritten
