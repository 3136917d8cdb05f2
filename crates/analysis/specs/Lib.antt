pub mod Rule
pub mod Near
pub mod Runs
