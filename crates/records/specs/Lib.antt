pub mod Nodes
pub mod Unknown
pub mod Edges
pub mod Refusals
pub mod SheetRefusals
pub mod Stages
pub mod Walks
pub mod Strands
