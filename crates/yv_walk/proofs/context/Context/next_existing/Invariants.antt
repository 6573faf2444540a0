use Rattle.std.proofs.Common.{◌≡◌, ◌-◌, ◌<◌, ◌≤◌, ℕ, false, length, true}
use Rattle.yv_nodes.specs.Rows.{children_of}
use Rattle.yv_walk.specs.Context.{IsContext, members_of, parent_of}
use Rattle.yv_walk.specs.Existence.{child_exists, passes, stands_in}
use Rattle.yv_walk.proofs.context.Context.next_existing.Given as goal

-- none exists of those that were passed
abbrev pub invariant-loop-place : goal.invariant-loop-place
invariant-loop-place l =
    record {
      behind : l.from ≤ l.place;
      passed : IsContext l.schema l.self → stands_in l.schema (parent_of l.self) l.fn.id ≡ true → passes l.schema l.fn.id ≡ true
          → (place : ℕ) → l.from ≤ place → place < l.place → place < length (children_of l.schema l.fn.id) → child_exists l.schema l.fn.id (members_of l.self) place ≡ false;
    }

abbrev pub decreases-loop-place : goal.decreases-loop-place
decreases-loop-place l = length l.children - l.place
