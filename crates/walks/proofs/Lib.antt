pub mod Seeing
pub mod Exploring
pub mod Turns
pub mod Closure
pub mod Degrees
pub mod Closed
pub mod Checking
