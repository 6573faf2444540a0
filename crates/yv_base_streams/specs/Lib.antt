pub mod Stream
pub mod Files
pub mod Pages
