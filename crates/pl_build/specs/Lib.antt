pub mod Names
pub mod Pipelines
pub mod Paths
pub mod Refusals
pub mod Executors
pub mod Counts
