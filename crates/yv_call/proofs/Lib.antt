pub mod FileLemmas
pub mod FrontLemmas
pub mod FrontMarks
pub mod PartLemmas
pub mod ShelfLemmas
pub mod SupplyLemmas
