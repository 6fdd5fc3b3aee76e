pub mod Inner
pub mod Promise
