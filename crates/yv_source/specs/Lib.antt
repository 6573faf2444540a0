-- The meaning of files and texts, which public clauses cite: read first Legal, Pieces, Quoted,
-- Grammar and Outcome.
pub mod Answer
pub mod Characters
pub mod Escapes
pub mod File
pub mod Grammar
pub mod Keywords
pub mod Legal
pub mod Outcome
pub mod Pieces
pub mod Place
pub mod Quotes
-- what private clauses only cite
pub mod Inner
-- statements as trees, how they are built, and the codes of refusals
pub use Rattle.yv_text_statement.specs.Tree
pub use Rattle.yv_text_statement.specs.Builder
pub use Rattle.yv_text_statement.specs.Codes
pub mod FileStatements
pub mod Texts
