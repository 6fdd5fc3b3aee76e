pub mod CoincideLaws
