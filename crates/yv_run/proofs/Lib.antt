pub mod OneOutput
pub mod FileLemmas
pub mod PatternLemmas
pub mod RunLemmas
pub mod BatchLemmas
pub mod LintLemmas
