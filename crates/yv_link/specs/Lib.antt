pub mod Modules
pub mod Links
pub mod LinkedFiles
