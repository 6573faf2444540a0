pub mod LabelLemmas
pub mod PieceLemmas
pub mod SupplyLemmas
pub mod LineLemmas
pub mod NameLemmas
pub mod SourceLemmas
pub mod BatchLemmas
