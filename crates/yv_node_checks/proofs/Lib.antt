pub mod Spots
pub mod Here
pub mod AncestryTable
pub mod Below
mod Namesakes
