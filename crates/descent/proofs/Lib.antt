pub mod KindLaws
pub mod RunningLaws
pub mod TurnLaws
