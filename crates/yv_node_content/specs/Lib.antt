pub mod Kinds
pub mod Steps
pub mod Definition
pub mod InnerNames
