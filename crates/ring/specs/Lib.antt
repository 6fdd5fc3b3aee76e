pub mod Around
pub mod Legs
