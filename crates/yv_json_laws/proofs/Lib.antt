pub mod TokenLemmas
pub mod PlaceLemmas
pub mod WalkPlaces
pub mod FaultPlaces
pub mod Pointers
