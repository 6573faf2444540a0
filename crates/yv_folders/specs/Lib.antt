pub mod Paths
pub mod InnerWalk
