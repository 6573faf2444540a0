pub mod Clear
pub mod Explanations
pub mod InnerLines
pub mod OtherRefusals
pub mod Subject
