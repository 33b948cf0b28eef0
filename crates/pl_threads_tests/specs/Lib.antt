pub mod Nodes
pub mod Openings
