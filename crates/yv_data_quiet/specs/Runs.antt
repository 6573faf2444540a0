-- Quiet nodes one after the other, among the children of a node: in an object in which none of them
-- exists, all are passed over at once.
use Rattle.std.specs.Prelude.{◌≡◌, ℕ, zero, suc, ◌+◌, ◌-◌, ◌&&◌, Bool, true, false, List, [], ◌∷◌, drop, length, Some, slice_get}
use Rattle.std.specs.BTreeMap.{BTreeMap, get_by}
use Rattle.std.specs.Option.{option_map, unwrap_or}
use Rattle.std.specs.Ordering.{nat_cmp}
use Rattle.std.specs.declared.alloc.Global.{Global}
use Rattle.std.specs.declared.vec.Vec.{Vec}
use Rattle.serde_json.specs.Data.{Members}
use Rattle.yv_values.specs.Count.{count_up}
use Rattle.yv_nodes.specs.declared.node.NodeId.{NodeId}
use Rattle.yv_nodes.specs.Rows.{children_of, Rows, tree_of}
use Rattle.yv_data_quiet.specs.Quiet.{IsPassed, is_quiet, tree_met}
use Rattle.yv_data_quiet.specs.declared.runs.Run.{Run}
use Rattle.yv_data_quiet.specs.declared.runs.RunTable.{RunTable}

-- so many of these nodes, from the first on, are quiet
abbrev pub run_quiet : Rows → (many : ℕ) → List NodeId → Bool
run_quiet s zero ns = true
run_quiet s (suc m) [] = false
run_quiet s (suc m) (n ∷ ns) = is_quiet s n.0 (tree_of s n) && run_quiet s m ns

-- the steps of so many of them
abbrev pub run_steps : Rows → (many : ℕ) → List NodeId → ℕ
run_steps s zero ns = 0
run_steps s (suc m) [] = 0
run_steps s (suc m) (n ∷ ns) = tree_met (tree_of s n) + run_steps s m ns

-- these nodes begin with a run
pub record IsRun (s : Rows) (ns : List NodeId) (run : Run) : Type 0 where
  pub quiet : run_quiet s run.many ns ≡ true
  pub steps : run_steps s run.many ns ≡ run.steps

-- a run for each of these nodes, which begins there, from the last to the first; or for the last of
-- them alone
abbrev pub AreRuns : Rows → List NodeId → List Run → Type 0
AreRuns s ns runs =
    (i : ℕ) (run : Run) → slice_get runs i ≡ Some run → IsRun s (drop (length ns - 1 - i) ns) run

-- the runs that are kept of the children of a node
abbrev pub kept_runs : BTreeMap ℕ (Vec Run Global) → ℕ → List Run
kept_runs rows n =
    unwrap_or (option_map (λ (v : Vec Run Global). v.items) (get_by (nat_cmp n) rows)) []

-- the runs of each node are those of its children
abbrev pub HaveRuns : Rows → BTreeMap ℕ (Vec Run Global) → Type 0
HaveRuns s rows = (p : NodeId) → AreRuns s (children_of s p) (kept_runs rows p.0)

-- the runs of a node's children
abbrev pub runs_in : RunTable → NodeId → List Run
runs_in table p = kept_runs table.rows p.0

-- a table has the runs of each node
abbrev pub HasRuns : Rows → RunTable → Type 0
HasRuns s table = HaveRuns s table.rows

-- so many of these nodes, from the first on, are passed over in an object with these members
abbrev pub ArePassed : Rows → Members → (many : ℕ) → List NodeId → Type 0
ArePassed s ms zero ns = Unit {0}
ArePassed s ms (suc m) [] = ⊥
ArePassed s ms (suc m) (n ∷ ns) = IsPassed s n ms (tree_met (tree_of s n)) × ArePassed s ms m ns

-- the children of a node from one place to another are passed over, and their steps are counted
pub record IsPast (s : Rows) (p : NodeId) (ms : Members) (from to old new : ℕ) : Type 0 where
  pub many : ℕ
  pub place : to ≡ from + many
  pub passed : ArePassed s ms many (drop from (children_of s p))
  pub steps : count_up new ≡ count_up (old + run_steps s many (drop from (children_of s p)))
