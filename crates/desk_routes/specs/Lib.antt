pub mod Paths
pub mod Targets
