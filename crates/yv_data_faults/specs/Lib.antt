pub mod Flaw
pub mod Line
pub mod Part
pub mod Trails
pub mod InnerPath
pub use Rattle.yv_nodes.specs.Tree
pub use Rattle.yv_nodes.specs.Rows
