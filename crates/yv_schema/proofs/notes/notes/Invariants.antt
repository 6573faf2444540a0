use Rattle.std.proofs.Common.{◌≡◌, ◌++◌, drop}
use Rattle.yv_link_scopes.specs.Views.{lent_in}
use Rattle.yv_schema.specs.InnerContext.{Tells}
use Rattle.yv_schema.specs.InnerBasis.{NumberedBasis}
use Rattle.yv_schema.specs.InnerNotes.{notes_from, notes_of}
use Rattle.yv_schema.proofs.notes.notes.Given as goal

-- with the notes of the augments behind, they are all
abbrev pub invariant-loop-place : goal.invariant-loop-place
invariant-loop-place l =
    (b : NumberedBasis) → Tells b l.context → b.files ≡ lent_in l.rows → l.notes.items ++ notes_from b l.place (drop l.place b.final.augments) ≡ notes_of b
