pub mod Asked
pub mod ClusterLines
pub mod Extents
pub mod Heads
pub mod Lines
pub mod Sites
pub mod Wanting
