pub mod ClearTexts
pub mod NoteExtension
pub mod OtherLines
