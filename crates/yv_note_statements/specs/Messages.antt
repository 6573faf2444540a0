-- What a message keeps beside what is said.
use Rattle.std.specs.Prelude.{Bool, is_err}
use Rattle.yv_note_statements.specs.declared.pieces.Message.{Message}

-- whether there was no memory for a part
abbrev pub has_failed : Message → Bool
has_failed telling = is_err telling.outcome
