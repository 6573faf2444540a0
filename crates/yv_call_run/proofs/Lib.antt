pub mod ActionLemmas
pub mod BatchShifts
pub mod FillLemmas
pub mod OutcomeLemmas
pub mod RunLemmas
pub mod Shifts
