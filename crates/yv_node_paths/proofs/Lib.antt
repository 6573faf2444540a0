pub mod Cuts
pub mod PathPieces
pub mod PathTexts
pub mod PathStarts
