pub mod FeatureWords
pub mod Least
pub mod Lists
pub mod Steps
pub mod AssignmentAgreement
pub mod FeatureOrder
pub mod Once
pub mod Fronts
