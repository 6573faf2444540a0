pub mod ListParts
pub mod NumberChains
pub mod Listing
pub mod Rows
pub mod PathTreeGrowth
pub mod TableEntries
