pub mod Steps
pub mod Referral
pub mod LeafPaths
pub mod InnerPrefixes
pub mod InnerFirstWord
