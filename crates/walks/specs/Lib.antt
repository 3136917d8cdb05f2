pub mod Exploring
pub mod Joined
pub mod Cycles
