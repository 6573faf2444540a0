pub mod Column
pub mod LineStart
