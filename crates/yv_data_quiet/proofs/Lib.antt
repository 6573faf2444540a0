pub mod Children
pub mod Leafs
pub mod ListLeafs
pub mod QuietSteps
pub mod QuietRuns
