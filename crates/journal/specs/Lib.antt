pub mod Journalled
pub mod Kinds
pub mod Tracks
