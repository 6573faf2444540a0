pub mod GivenFiles
pub mod ItemNodes
pub mod Phases
pub mod NodePositions
pub mod Finals
pub mod Targets
pub mod BlockFiles
pub mod ModuleFiles
pub mod TreeJudgements
pub mod ExpansionResult
pub mod TerminalNodes
pub mod ChildlessItems
pub mod ParentKinds
mod Numbering
mod TreeRemains
