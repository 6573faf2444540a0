pub mod Final
pub mod Refusals
pub mod Remains
pub mod Lowest
pub mod FinalTree
pub mod InnerNodes
