pub mod Nodes
pub mod Paths
pub mod Gives
pub mod Rounds
pub mod Expansion
pub mod Remains
pub mod Refusals
