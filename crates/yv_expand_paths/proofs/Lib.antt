pub mod NamePlaces
pub mod NameTableGrowth
pub mod StepNumbers
pub mod PathReading
