-- Only private clauses cite this: the refusal of an augment for one item.
use Rattle.std.specs.Prelude.{ℕ, not, Bool, List, Option, Some, None, slice_get}
use Rattle.yv_text_statement.specs.declared.refusal.Code.TheVariants as code
use Rattle.yv_text_statement.specs.declared.refusal.Refusal.{Refusal}
use Rattle.yv_link_scopes.specs.Rows.{Row}
use Rattle.yv_expand_augments.specs.InnerRefusals.{refusal_of_row}
use Rattle.yv_expand_augments.specs.Placement.{augment_around}
use Rattle.yv_expand_statements.specs.Kinds.{takes}
use Rattle.yv_expand_uses.specs.declared.spot.Spot.{Spot}

-- the refusal of an augment, if there is one and it is bad
abbrev pub refusal_of_augment : List Row → (bad : Bool) → (augment : Option ℕ) → Option Refusal
refusal_of_augment rows bad None = None
refusal_of_augment rows bad (Some augment) =
    refusal_of_row code.BadAugment bad (slice_get rows augment)

-- what is refused at an item that is below a node
abbrev pub placement_refusal : List Row → (item node : Option Spot) → Option Refusal
placement_refusal rows None _ = None
placement_refusal rows (Some s) None = None
placement_refusal rows (Some s) (Some node) =
    refusal_of_augment rows (not (takes node.label.kind s.label.kind))
    (augment_around rows (slice_get rows s.statement))
