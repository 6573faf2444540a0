pub mod Above
pub mod Mandatory
pub mod Bad
pub mod InnerAncestry
pub mod InnerBelow
pub mod InnerNamesakes
