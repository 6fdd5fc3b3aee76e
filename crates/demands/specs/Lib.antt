pub mod Demands
pub mod Onward
pub mod Solvers
