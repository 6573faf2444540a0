pub mod Alike
pub mod ClearTexts
pub mod CodePoints
pub mod QuotedWords
