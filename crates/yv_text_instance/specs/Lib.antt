pub mod Bytes
pub mod QualifiedNames
pub mod Predicates
pub mod Instances
pub mod InnerStates
