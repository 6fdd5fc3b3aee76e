pub mod NoteLaws
pub mod OnLaws
pub mod SideLaws
pub mod WalkLaws
