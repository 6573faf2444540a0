pub mod Targets
pub mod Changes
pub mod InnerJoints
pub mod InnerPlaces
