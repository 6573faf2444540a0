pub mod TypedefDefaultTexts
pub mod DefaultFinding
pub mod DefaultOnce
pub mod PrefixScopes
pub mod Binding
pub mod KeptDefaults
pub mod LeafrefOnce
pub mod LeafrefFinding
pub mod LeafrefWalking
mod UnionMembers
mod Numbering
mod TypeStatementPlace
mod SharedTypeNumbers
mod Single
mod TypeStatementStep
mod TypeNames
mod PlacedPlainTypes
mod TableWalk
mod UnrestrictedTypes
