pub mod NextValueName
pub mod Faults
mod Faulty
mod TypeStatementStep
mod TableWalk
