pub mod WriteLaws
pub mod WindowLaws
pub mod RotateLaws
pub mod ReverseLaws
