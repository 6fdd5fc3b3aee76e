pub mod LoadLaws
pub mod PassLaws
