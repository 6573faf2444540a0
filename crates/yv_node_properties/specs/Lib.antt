pub mod Statements
pub mod Properties
pub mod Marks
