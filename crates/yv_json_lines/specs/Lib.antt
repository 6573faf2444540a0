pub mod Pointer
pub mod Values
pub mod OneLine
pub mod ReadBack
pub mod InnerPieces
pub mod InnerSteps
