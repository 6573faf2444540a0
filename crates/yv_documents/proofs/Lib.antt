pub mod DocumentLemmas
pub mod NoteLemmas
pub mod ReplyLemmas
pub mod StepsLemmas
