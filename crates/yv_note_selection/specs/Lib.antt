pub mod Lines
pub mod InnerLines
