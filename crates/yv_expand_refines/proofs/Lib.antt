pub mod ItemRefines
pub mod RunSequences
pub mod Meaning
