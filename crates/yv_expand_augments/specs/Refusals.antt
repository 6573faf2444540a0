-- What is wrong with the augments of modules, and with the final tree (RFC 7950, section 7.17).
use Rattle.std.specs.Prelude.{◌≡◌, ℕ, false, List, length, Some, None, slice_get}
use Rattle.yv_text_statement.specs.Order.{Among, Stands, refusal_at}
use Rattle.yv_text_statement.specs.declared.refusal.Code.{Code}
use Rattle.yv_text_statement.specs.declared.refusal.Code.TheVariants as code
use Rattle.yv_text_statement.specs.declared.refusal.Refusal.{Refusal}
use Rattle.yv_link_scopes.specs.Rows.{Row}
use Rattle.yv_expand.specs.Tree.{Item}
use Rattle.yv_expand_rounds.specs.Turns.{State, target_of}
use Rattle.yv_expand_rounds.specs.declared.row.ItemRow.{ItemRow}
use Rattle.yv_expand_statements.specs.Kinds.{is_uses}
use Rattle.yv_expand_uses.specs.Spots.{Whole, labels_of, layout_of}
use Rattle.yv_expand_uses.specs.declared.spot.Spot.{Spot}

-- f is the refusal of the numbered statement, which is refused where P holds
abbrev pub RefusesIf : List Row → Code → Type 0 → (statement : ℕ) → Refusal → Type 0
RefusesIf rows c P k f =
    (r : Row) × (slice_get rows k ≡ Some r) × Stands P (refusal_at c r.file r.head) f

-- the augment of a module at this place adds to no node: it was never applied, or its path ends
-- where no augment may add
abbrev pub HasNoTarget : Whole → List Item → State → (place : ℕ) → Type 0
HasNoTarget w items st place = target_of (labels_of (layout_of w items).spots) st.ends place ≡ None

-- an augment of a module that adds to no node is refused
abbrev pub BadTarget : Whole → List Item → State → Refusal → Type 0
BadTarget w items st f =
    Among w.augments (λ place a. RefusesIf w.rows code.AugmentTarget
    (HasNoTarget w items st place) a) (length w.augments) f

-- an item of the final tree is a node at depth 129, where 128 levels are kept; a uses isn't a node
abbrev pub IsTooDeep : List Row → List Spot → ItemRow → Refusal → Type 0
IsTooDeep rows spots x f =
    (s : Spot) × (slice_get spots x.number ≡ Some s)
    × RefusesIf rows code.TreeTooDeep
    ((x.depth ≡ 129) × (is_uses s.label.kind ≡ false)) s.statement f

-- a node of the final tree is too deep
abbrev pub TooDeep : List Row → List Spot → List ItemRow → Refusal → Type 0
TooDeep rows spots tree f = Among tree (λ place x. IsTooDeep rows spots x) (length tree) f
