pub mod AppFacts
pub mod NameLemmas
pub mod WayLemmas
pub mod AskLemmas
pub mod FaultLemmas
pub mod RuleLemmas
