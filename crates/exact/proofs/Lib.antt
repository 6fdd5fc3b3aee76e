pub mod Bits
pub mod Cells
pub mod Rows
pub mod Fills
pub mod Choices
pub mod Backs
pub mod Numbers
pub mod Solves
