pub mod Sorting
pub mod Orders
pub mod Partitions
pub mod Subgraphs
pub mod Places
pub mod Wholes
pub mod WholePartitions
