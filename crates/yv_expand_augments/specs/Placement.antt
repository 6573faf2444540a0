-- What augments put where it may not be (RFC 7950, section 7.17).
use Rattle.std.specs.Prelude.{◌≡◌, ℕ, false, List, length, if◌then◌else◌, Option, Some, None, slice_get}
use Rattle.yv_text_statement.specs.Order.{Among}
use Rattle.yv_text_statement.specs.declared.refusal.Code.TheVariants as code
use Rattle.yv_text_statement.specs.declared.refusal.Refusal.{Refusal}
use Rattle.yv_link_scopes.specs.Rows.{Row}
use Rattle.yv_expand_rounds.specs.declared.row.ItemRow.{ItemRow}
use Rattle.yv_expand_statements.specs.Kinds.{takes}
use Rattle.yv_expand_statements.specs.StatementBlocks.{is_augment}
use Rattle.yv_expand_uses.specs.Spots.{spot_at}
use Rattle.yv_expand_augments.specs.Refusals.{RefusesIf}
use Rattle.yv_expand_uses.specs.declared.spot.Spot.{Spot}

-- the number of a statement that is an `augment`
abbrev pub augment_at : (number : ℕ) → Option Row → Option ℕ
augment_at number None = None
augment_at number (Some r) = if is_augment r then Some number else None

-- the augment in whose block a statement is, if it is in one
abbrev pub augment_around : List Row → Option Row → Option ℕ
augment_around rows None = None
augment_around rows (Some r) = augment_at r.scope (slice_get rows r.scope)

-- an item of the final tree is in the block of an augment, and below a node that doesn't take it:
-- the augment is refused
abbrev pub IsMisplaced : List Row → List Spot → ItemRow → Refusal → Type 0
IsMisplaced rows spots x f =
    (s : Spot) × (node : Spot) × (augment : ℕ) × (slice_get spots x.number ≡ Some s)
    × (spot_at spots x.parent ≡ Some node)
    × (augment_around rows (slice_get rows s.statement) ≡ Some augment)
    × RefusesIf rows code.BadAugment (takes node.label.kind s.label.kind ≡ false) augment f

-- an augment, of a uses or of a module, gives an item to a node that doesn't take it
abbrev pub PutsMisplaced : List Row → List Spot → List ItemRow → Refusal → Type 0
PutsMisplaced rows spots tree f = Among tree (λ place x. IsMisplaced rows spots x) (length tree) f
