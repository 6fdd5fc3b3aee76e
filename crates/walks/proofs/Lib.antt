mod DiveLaws
mod FindLaws
pub mod HoldLaws
mod JudgeLaws
mod RestartLaws
mod ShakeLaws
mod WalkLaws
