pub mod InnerPatterns
pub mod PatternFailure
