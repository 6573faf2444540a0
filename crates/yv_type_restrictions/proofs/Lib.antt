pub mod One
pub mod Read
pub mod Wider
pub mod BuiltInNames
pub mod TypeStatementStep
pub mod TableWalk
pub mod Children
