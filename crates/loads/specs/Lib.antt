pub mod Lying
pub mod Undoing
