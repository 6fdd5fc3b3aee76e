pub mod LeftLaws
pub mod ShownLaws
