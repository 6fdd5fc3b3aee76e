pub mod Lines
pub mod Queues
