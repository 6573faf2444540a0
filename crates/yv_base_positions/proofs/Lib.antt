pub mod ColumnLemmas
pub mod LineLemmas
pub mod OffsetLemmas
