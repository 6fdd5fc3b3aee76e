pub mod FifthLaws
pub mod MayLaws
pub mod SeekLaws
