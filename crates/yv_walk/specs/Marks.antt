-- Marks: which data nodes exist in choices and cases, by the numbers of these.
use Rattle.std.specs.Prelude.{◌≡◌, ℕ, Bool, true, false}
use Rattle.std.specs.Option.{unwrap_or}
use Rattle.std.specs.Ordering.{nat_cmp}
use Rattle.std.specs.BTreeMap.{get_by}
use Rattle.serde_json.specs.Data.{Members}
use Rattle.yv_nodes.specs.declared.node.NodeId.{NodeId}
use Rattle.yv_nodes.specs.Rows.{Rows, below, rank}
use Rattle.yv_walk.specs.declared.marks.Marks.{Marks}
use Rattle.yv_walk.specs.declared.existence.Existence.{Existence}
use Rattle.yv_walk.specs.declared.existence.Existence.TheVariants.{Nothing, Only}
use Rattle.yv_walk.specs.Existence.{both, passes, existence_of, stands_in}

-- the mark at a number
abbrev pub mark_at : Marks → ℕ → Existence
mark_at m n = unwrap_or (get_by (nat_cmp n) m.rows) Nothing

-- with one node more, where it is among those
abbrev pub with_node : Bool → Existence → NodeId → Existence
with_node true old n = both old (Only n)
with_node false old n = old

-- each choice and case in the object of p has the mark of what exists in it
abbrev pub AreMarked : Rows → NodeId → Marks → Members → Type 0
AreMarked s p m ms =
    (a : NodeId) → stands_in s p a ≡ true → passes s a ≡ true
    → mark_at m a.0 ≡ existence_of (rank a) (below s a) ms
