pub mod Reached
pub mod Seals
