pub mod Families
pub mod InnerParts
pub mod InnerChains
pub mod Fronts
pub mod InnerTree
pub mod Slots
pub mod Sparse
pub mod Table
