pub mod PickLaws
pub mod TryLaws
