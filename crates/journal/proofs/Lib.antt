pub mod GrewLaws
pub mod KindLaws
mod MoveLaws
pub mod SameLaws
