-- Only private clauses cite this: the refusal of a statement that is bad.
use Rattle.std.specs.Prelude.{ℕ, ◌==◌, ◌&&◌, not, Bool, true, false, List, if◌then◌else◌, Option, Some, None, slice_get}
use Rattle.yv_text_statement.specs.Order.{refusal_at}
use Rattle.yv_text_statement.specs.declared.refusal.Code.{Code}
use Rattle.yv_text_statement.specs.declared.refusal.Code.TheVariants as code
use Rattle.yv_text_statement.specs.declared.refusal.Refusal.{Refusal}
use Rattle.yv_link_scopes.specs.Rows.{Row}
use Rattle.yv_expand_statements.specs.Kinds.{is_uses}
use Rattle.yv_expand_uses.specs.declared.spot.Spot.{Spot}

abbrev pub refusal_of_row : Code → Bool → Option Row → Option Refusal
refusal_of_row c bad None = None
refusal_of_row c bad (Some r) = if bad then Some (refusal_at c r.file r.head) else None

-- what is refused at an item of this depth
abbrev pub depth_refusal : List Row → (depth : ℕ) → Option Spot → Option Refusal
depth_refusal rows depth None = None
depth_refusal rows depth (Some s) =
    refusal_of_row code.TreeTooDeep ((depth == 129) && not (is_uses s.label.kind))
    (slice_get rows s.statement)

abbrev pub is_absent : Option ℕ → Bool
is_absent None = true
is_absent (Some n) = false
