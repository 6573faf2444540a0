mod RowTypes
pub mod Behind
mod KeyNames
mod Firsts
