-- Only private clauses cite this: the items of the final tree one by one, first what is around
-- each, and then what each has, from the last to the first.
use Rattle.std.specs.Prelude.{◌≡◌, ◌≤◌, ℕ, ◌+◌, ◌==◌, ◌&&◌, ◌||◌, ◌⊎◌, not, Bool, false, List, [], ◌∷◌, if◌then◌else◌, Option, Some, None, slice_get}
use Rattle.yv_text_statement.specs.declared.refusal.Refusal.{Refusal}
use Rattle.yv_link_scopes.specs.Rows.{Row}
use Rattle.yv_expand_rounds.specs.declared.row.ItemRow.{ItemRow}
use Rattle.yv_expand_augments.specs.MandatoryNodes.{Around, IsMandatoryAdded, MarksView, source_of, inside, is_configuration, is_given, is_mandatory}
use Rattle.yv_expand_augments.specs.InnerPlacement.{refusal_of_augment}
use Rattle.yv_expand_uses.specs.declared.spot.Spot.{Spot}

-- the depth of each item is at most its place, counted from 1
abbrev pub AreShallow : List ItemRow → Type 0
AreShallow tree = (k : ℕ) (x : ItemRow) → slice_get tree k ≡ Some x → x.depth ≤ k + 1

-- what is around the items of each depth, by two marks: they are state data where no `config` says
-- more, and are in an operation
abbrev pub around_marks : (states operations : ℕ → Bool) → (depth : ℕ) → Around
around_marks states operations depth =
    record { is_config = not (states depth); in_operation = operations depth }

-- now this is around the items of a depth
abbrev pub enter : (depth : ℕ) → Around → (ℕ → Around) → ℕ → Around
enter depth here around d = if d == depth then here else around d

-- whether each item is configuration, where this is around the items of each depth
abbrev pub configuration_marks : List Spot → MarksView → (around : ℕ → Around) → List ItemRow
    → List Bool
configuration_marks spots told around [] = []
configuration_marks spots told around (x ∷ xs) =
    is_configuration (inside spots told x.number (around x.depth))
    ∷ configuration_marks spots told
    (enter (x.depth + 1) (inside spots told x.number (around x.depth)) around) xs

-- of each depth, whether a mandatory item is there that no augment of a module gave, after the last
-- item above it: one more item
abbrev pub meet : (depth : ℕ) → (counts : Bool) → (ℕ → Bool) → ℕ → Bool
meet depth counts found d =
    if d == depth then counts || found depth else (if d == depth + 1 then false else found d)

abbrev pub counts : List Spot → (augments : List ℕ) → MarksView → (number : ℕ) → (has : Bool) → Bool
counts spots augments told i has = not (is_given spots augments i) && is_mandatory spots told i has

abbrev pub found_in : List Spot → (augments : List ℕ) → MarksView → List ItemRow → ℕ → Bool
found_in spots augments told [] d = false
found_in spots augments told (x ∷ xs) d =
    meet x.depth (counts spots augments told x.number
    (found_in spots augments told xs (x.depth + 1))) (found_in spots augments told xs) d

abbrev pub first : List Bool → Bool
first [] = false
first (mark ∷ marks) = mark

abbrev pub others : List Bool → List Bool
others [] = []
others (mark ∷ marks) = marks

-- the items with a mark for each that is configuration
abbrev pub ImposesMandatoryIn : List Row → List Spot → (augments : List ℕ) → MarksView
    → (marks : List Bool) → List ItemRow → Refusal → Type 0
ImposesMandatoryIn rows spots augments told marks [] f = ⊥
ImposesMandatoryIn rows spots augments told marks (x ∷ xs) f =
    ImposesMandatoryIn rows spots augments told (others marks) xs f
    ⊎ IsMandatoryAdded rows spots augments x.parent x.number
    (is_mandatory spots told x.number (found_in spots augments told xs (x.depth + 1))
    && first marks) f

abbrev pub is_mandatory_added : (s node : Spot) → (required : Bool) → Bool
is_mandatory_added s node required = not (s.module_file == node.module_file) && required

-- what is refused at an item that is below a node
abbrev pub mandatory_refusal : List Row → (items : ℕ) → (augments : List ℕ) → (required : Bool)
    → (item node : Option Spot) → Option Refusal
mandatory_refusal rows items augments required None _ = None
mandatory_refusal rows items augments required (Some s) None = None
mandatory_refusal rows items augments required (Some s) (Some node) =
    refusal_of_augment rows (is_mandatory_added s node required) (source_of items augments (Some s))
