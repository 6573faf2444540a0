use Rattle.std.proofs.Common.{◌≡◌, ◌+◌, ◌-◌, ◌≤◌, drop, length, true}
use Rattle.yv_nodes.specs.Rows.{children_of}
use Rattle.yv_walk.specs.Context.{IsContext, members_of, parent_of}
use Rattle.yv_walk.specs.Existence.{passes, stands_in}
use Rattle.yv_walk.proofs.ExistingChildren.{count_of}
use Rattle.yv_walk.proofs.context.Context.count_existing.Given as goal

-- with those that are left, all are counted
abbrev pub invariant-loop-place : goal.invariant-loop-place
invariant-loop-place l =
    record {
      few : l.total ≤ l.from;
      within : l.from ≤ length (children_of l.schema l.fn.id);
      told : IsContext l.schema l.self → stands_in l.schema (parent_of l.self) l.fn.id ≡ true
          → passes l.schema l.fn.id ≡ true
          → l.total + count_of l.schema (drop l.from (children_of l.schema l.fn.id)) (members_of l.self) ≡ count_of l.schema (children_of l.schema l.fn.id) (members_of l.self);
    }

abbrev pub decreases-loop-place : goal.decreases-loop-place
decreases-loop-place l = length (children_of l.schema l.fn.id) - l.from
