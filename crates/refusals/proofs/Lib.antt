pub mod VerdictLaws
mod EvenRowLaws
mod EntriesLaws
pub mod SizeLaws
pub mod ListLaws
pub mod PartLaws
pub mod StateLaws
pub mod PassLaws
mod NumberLaws
