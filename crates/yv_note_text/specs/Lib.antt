pub mod Alike
pub mod Clear
pub mod CodePoints
pub mod Excerpt
pub mod Quotes
