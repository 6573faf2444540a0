pub mod PathTables
pub mod InnerNames
pub mod InnerNameNumbers
pub mod InnerSteps
