pub mod Standing
pub mod Walking
