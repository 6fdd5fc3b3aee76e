pub mod LeaveLaws
pub mod KickLaws
pub mod PromiseLaws
pub mod DescentLaws
