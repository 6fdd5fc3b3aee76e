pub mod Scans
pub mod Blocks
pub mod Walks
pub mod Coincide
