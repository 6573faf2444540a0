-- What is said of a refusal is said still where more is added.
use Rattle.std.proofs.Common.{List, ℕ, Result, Err}
use Rattle.std.specs.List.{find}
use Rattle.std.specs.Option.{option_and_then}
use Rattle.yv_text_statement.specs.declared.refusal.Refusal.{Refusal}
use Rattle.yv_link_scopes.specs.Rows.{Row}
use Rattle.yv_link_scopes.specs.RowList.{rows_of}
use Rattle.yv_base_streams.specs.Files.{File}
use Rattle.yv_note_refusals.specs.Explanations.{Speaks, names_row, names_syntax}
use Rattle.yv_note_text.specs.Quotes.{Extends}
use Rattle.yv_note_refusals.specs.Subject.{is_at, subject}
use Rattle.yv_note_text.proofs.QuotedWords.{named_longer}

pub speaks_longer : (files : List File) (r : Refusal) (old new : List ℕ) → Extends old new → Speaks files r old → Speaks files r new
speaks_longer files r old new longer (names_row ts read names) =
    names_row ts read (named_longer (option_and_then (λ (row : Row). subject r.code row.head) (find (is_at r) (rows_of ts))) old new longer names)
speaks_longer files r old new longer (names_syntax q at) = names_syntax q at

-- an error, as an answer of a kind
abbrev pub failed : (A E : Type 0) → E → Result A E
failed A E e = Err e
