pub mod ImproveLaws
pub mod StepLaws
