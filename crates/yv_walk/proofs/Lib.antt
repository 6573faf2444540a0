mod Bools
mod Joins
mod NonEmptyArrays
mod TreeRows
mod TreesInSchema
mod Above
mod Steps
mod Single
pub mod Keys
mod MemberNodes
mod MemberValues
mod UnknownMembers
mod Stands
mod ExistingChildren
mod AscendingNodes
mod Places
