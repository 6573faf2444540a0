-- Only private clauses cite this: of which nodes something is kept, by their numbers, and how many
-- children exist.
use Rattle.std.specs.Prelude.{◌≡◌, ◌<◌, ℕ, Bool, true, List, length, nat_lt, Option, Some, None}
use Rattle.std.specs.List.{slice_index_or}
use Rattle.yv_nodes.specs.declared.node.NodeId.{NodeId}
use Rattle.yv_nodes.specs.Rows.{Rows, below, rank}
use Rattle.yv_walk.specs.Context.{IsContext, members_of, parent_of}
use Rattle.yv_walk.specs.Existence.{count_standing, passes, stands_in}
use Rattle.yv_walk.specs.declared.context.Context.{Context}
use Rattle.yv_walk.specs.declared.existence.Existence.TheVariants.{Nothing}
use Rattle.yv_walk.specs.Marks.{mark_at}
use Rattle.yv_walk.specs.WrittenValues.{value_at}

-- the number is less than this one, where there is one
abbrev pub is_before : ℕ → Option ℕ → Bool
is_before n None = true
is_before n (Some m) = nat_lt n m

-- nothing is kept at the number: no value, and no mark
pub record IsUnkept (c : Context) (n : ℕ) : Type 0 where
  pub value : value_at c.values n ≡ None
  pub mark : mark_at c.marks n ≡ Nothing

-- each of the nodes has a greater number than those before it
abbrev pub Ascend : List NodeId → Type 0
Ascend ns = (i k : ℕ) (d : NodeId) → i < k → k < length ns
    → (slice_index_or ns i d).0 < (slice_index_or ns k d).0

-- so many children of a choice or case in the object exist, where this was read from it
abbrev pub IsCount : Rows → Context → NodeId → ℕ → Type 0
IsCount s c id n =
    IsContext s c → stands_in s (parent_of c) id ≡ true → passes s id ≡ true
    → n ≡ count_standing (rank id) (below s id) (members_of c)
