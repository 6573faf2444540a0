pub mod Conditions
pub mod Sums
pub mod InnerCounts
