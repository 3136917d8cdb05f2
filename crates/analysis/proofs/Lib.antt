pub mod Unique
pub mod Joining
pub mod Ranks
pub mod Stepping
pub mod Answering
