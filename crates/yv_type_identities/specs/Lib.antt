pub mod Bases
pub mod Values
pub mod Identities
pub mod InnerSets
pub mod InnerBases
pub mod InnerCandidates
pub mod InnerPlaces
pub mod InnerRuns
