pub mod ClosingLaws
pub mod FromLaws
pub mod GrowLaws
pub mod LevelLaws
pub mod NextLaws
