-- Augments of uses that add to no node, each asked in its turn (RFC 7950, sections 7.13 and 7.17).
use Rattle.std.specs.Prelude.{◌≡◌, ℕ, ◌+◌, true, List, length, take, drop, if◌then◌else◌, Option, Some, None, slice_get}
use Rattle.std.specs.List.{filter}
use Rattle.std.specs.Option.{option_and_then}
use Rattle.yv_text_statement.specs.Order.{Among}
use Rattle.yv_text_statement.specs.declared.refusal.Code.TheVariants as code
use Rattle.yv_text_statement.specs.declared.refusal.Refusal.{Refusal}
use Rattle.yv_link_scopes.specs.Rows.{Row}
use Rattle.yv_expand.specs.Tree.{Item}
use Rattle.yv_expand_rounds.specs.declared.end.End.TheVariants.{Start}
use Rattle.yv_expand_rounds.specs.declared.label.Label.{Label}
use Rattle.yv_expand_rounds.specs.declared.row.ItemRow.{ItemRow}
use Rattle.yv_expand_rounds.specs.Groups.{group_of_augment, members_of}
use Rattle.yv_expand_rounds.specs.Paths.{path_end}
use Rattle.yv_expand_rounds.specs.Turns.{State, target}
use Rattle.yv_expand_statements.specs.Kinds.{is_uses}
use Rattle.yv_expand_uses.specs.Ends.{end_at}
use Rattle.yv_expand_augments.specs.Refusals.{RefusesIf}
use Rattle.yv_expand_uses.specs.AugmentOrder.{augments_in, is_giving}
use Rattle.yv_expand_augments.specs.Augmentation.{last_of, placed_from, turns_from}
use Rattle.yv_expand_uses.specs.Paths.{path_in}
use Rattle.yv_expand_uses.specs.Spots.{LayoutView, Whole, labels_of, layout_of}
use Rattle.yv_expand_uses.specs.declared.spot.Spot.{Spot}

-- those of the first augments of a uses that give something: they have had their turns
abbrev pub had_turns : List Row → Spot → (count : ℕ) → List ℕ
had_turns rows s count =
    filter (is_giving rows s.statement) (take count (augments_in rows s.statement))

-- the number of the next copy
abbrev pub next_number : List Row → Spot → (count : ℕ) → ℕ
next_number rows s count = s.first + length (had_turns rows s count)

-- what the first augments of a uses made of a state
abbrev pub after_turns : Whole → List Label → Spot → (count : ℕ) → State → State
after_turns w labels s count st = turns_from w labels s s.first (had_turns w.rows s count) st

-- The path of an augment leads to what comes before the first item that it gives; where it gives
-- nothing, to what the uses gives.
abbrev pub limit_of : Whole → List Label → Spot → (end number augment : ℕ) → State → ℕ
limit_of w labels s end number a st =
    if is_giving w.rows s.statement a
    then last_of (members_of st.groups (group_of_augment labels number)) else end

-- the node to which an augment of a uses adds that has its turn now
abbrev pub node_reached : Whole → List Label → Spot → (end number augment : ℕ) → State → Option ℕ
node_reached w labels s end number a st =
    option_and_then (target labels)
    (path_end labels st.groups (limit_of w labels s end number a st) (path_in w s.module_file a)
    (Start s.group))

-- an augment of a uses adds to no node in its turn, which comes after those of so many
abbrev pub MissesInTurn : Whole → List Label → Spot → (end : ℕ) → State → (count augment : ℕ)
    → Refusal → Type 0
MissesInTurn w labels s end st count a f =
    RefusesIf w.rows code.AugmentTarget
    (node_reached w labels s end (next_number w.rows s count) a
    (after_turns w labels s count st) ≡ None) a f

-- the item is a uses, and one of its augments does, where their turns begin in this state
abbrev pub MissesOf : Whole → List Label → Spot → (end : ℕ) → State → Refusal → Type 0
MissesOf w labels s end st f =
    (is_uses s.label.kind ≡ true)
    × Among (augments_in w.rows s.statement) (MissesInTurn w labels s end st)
    (length (augments_in w.rows s.statement)) f

-- the item of this number is one: their turns begin when all items after it have entered
abbrev pub MissesAt : Whole → LayoutView → (end number : ℕ) → Refusal → Type 0
MissesAt w l end i f =
    (s : Spot) × (slice_get l.spots i ≡ Some s)
    × MissesOf w (labels_of l.spots) s end
    (placed_from w (labels_of l.spots) l.copies (i + 1) (drop (i + 1) l.spots)) f

-- an augment of a uses of the final tree adds to no node
abbrev pub MissesTarget : Whole → List Item → List ItemRow → Refusal → Type 0
MissesTarget w items tree f =
    Among tree (λ place x. MissesAt w (layout_of w items) (end_at items x.number) x.number)
    (length tree) f
