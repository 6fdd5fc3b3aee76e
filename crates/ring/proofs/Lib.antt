pub mod AroundLaws
pub mod TurnAtLaws
pub mod CostLaws
pub mod LegLaws
