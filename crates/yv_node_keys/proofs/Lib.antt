pub mod Spots
pub mod NamedChildren
pub mod Listing
pub mod Meeting
pub mod StepDestinations
pub mod MixedConfig
pub mod NumberTables
pub mod ListRefusals
mod Namesakes
mod NodeCounterparts
mod PathShifts
