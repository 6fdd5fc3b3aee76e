pub mod Memories
pub mod Names
pub mod Reading
pub mod Results
