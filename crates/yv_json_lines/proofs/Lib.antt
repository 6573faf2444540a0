pub mod ByteLemmas
pub mod OneLineLemmas
pub mod PieceLemmas
pub mod PointerLemmas
pub mod ReadBackLemmas
