pub mod Words
pub mod Quotes
pub mod Tokens
pub mod PartsRead
pub mod InstancesRead
pub mod Completion
