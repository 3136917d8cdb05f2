pub mod Graph
pub mod Reach
pub mod Strands
pub mod View
pub mod Laws
pub mod Worked
pub mod Misread
