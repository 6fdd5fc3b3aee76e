pub mod CutLaws
pub mod MadeLaws
pub mod MoveLaws
