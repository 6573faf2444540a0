pub mod NamedLeafs
pub mod Quiet
pub mod Runs
