pub mod EndLaws
pub mod HeaderLaws
pub mod ListLaws
pub mod NumberLaws
