pub mod Links
pub mod Prefixes
pub mod Dates
pub mod Imports
pub mod Modules
pub mod InnerDates
pub mod InnerImports
