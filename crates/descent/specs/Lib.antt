pub mod Descents
pub mod Handed
pub mod Kinds
