pub mod Copying
pub mod Following
pub mod Nodes
pub mod Texts
pub mod Walking
