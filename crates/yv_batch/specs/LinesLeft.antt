-- The documents that a source of lines still has.
use Rattle.std.specs.Prelude.{ℕ, ◌+◌, ◌||◌, Bool, List, string_bytes, if◌then◌else◌}
use Rattle.std.specs.Option.{option_map}
use Rattle.std.specs.declared.option.Option.{Option}
use Rattle.std.specs.declared.option.Option.TheVariants.{None}
use Rattle.yv_batch.specs.AskedDocument.{AskedDocument}
use Rattle.yv_batch.specs.PiecesLeft.{left_of}
use Rattle.yv_batch.specs.LineDocuments.{lines_asked}
use Rattle.yv_batch.specs.Pieces.{pieces}
use Rattle.yv_batch.specs.declared.lines.Lines.{Lines}

-- what is still to come of a source of which so many lines were read, if nothing was lost
abbrev pub lines_left : (source : List ℕ) → (number : ℕ) → (is_lost : Bool) → Option (List ℕ)
    → Option (List AskedDocument)
lines_left source number is_lost left = if is_lost then None
    else option_map (λ bytes. lines_asked source (number + 1) (pieces 10 bytes)) left

-- what is still to come, where it is known: a source of which a line was lost isn't
abbrev pub lines_of : {R : Type 0} → (remaining : R → Option (List ℕ)) → Lines R
    → Option (List AskedDocument)
lines_of remaining l = lines_left (string_bytes l.source) l.number (l.has_lost || l.is_broken)
    (left_of remaining l.pieces)
