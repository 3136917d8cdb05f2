pub mod Each
pub mod Stepping
pub mod Meeting
pub mod Pushing
pub mod Running
pub mod Reached
pub mod Counting
