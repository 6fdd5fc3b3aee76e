pub mod LineLaws
pub mod AgreeLaws
mod PushLaws
pub mod SameLaws
