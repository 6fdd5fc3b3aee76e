pub mod Lending
pub mod Refusing
pub mod Passed
pub mod Lents
