pub mod Filled
pub mod Marks
pub mod Steps
