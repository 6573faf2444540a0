pub mod ChildAddition
pub mod Least
pub mod MappedLists
pub mod KeywordTexts
