pub mod Mask
pub mod Near
pub mod Started
