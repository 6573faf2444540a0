pub mod Existence
pub mod Marks
pub mod InnerMarks
pub mod MemberNodes
pub mod WrittenValues
pub mod Context
pub mod InnerNextExisting
