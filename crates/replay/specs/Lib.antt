pub mod Kinds
pub mod Lists
