pub mod StreamLemmas
pub mod PageWrites
