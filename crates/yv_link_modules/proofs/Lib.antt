pub mod Flags
pub mod Latest
pub mod ImportWays
pub mod KeywordPrefixes
