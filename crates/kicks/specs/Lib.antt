pub mod Exchanging
pub mod Drawing
pub mod Kicking
pub mod Kinds
