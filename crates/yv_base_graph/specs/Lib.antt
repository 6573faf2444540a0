pub mod Graph
pub mod InnerEdgeless
pub mod InnerMarks
pub mod InnerPeers
pub mod InnerSearch
pub mod Marks
pub mod Ranks
