pub mod Demand1
pub mod Demand3
mod GroundLaws
mod HoldsLaws
pub mod Onward
mod RightLaws
pub mod Solvers
mod Witness
