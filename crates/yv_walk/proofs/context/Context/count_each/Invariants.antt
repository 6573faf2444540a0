use Rattle.std.proofs.Common.{◌≡◌, ◌+◌, ◌≤◌, drop, true}
use Rattle.yv_nodes.specs.Rows.{children_of}
use Rattle.yv_walk.specs.Context.{IsContext, members_of, parent_of}
use Rattle.yv_walk.specs.Existence.{passes, stands_in}
use Rattle.yv_walk.proofs.ExistingChildren.{count_of}
use Rattle.yv_walk.proofs.context.Context.count_each.Given as goal

-- with those that are left, all are counted
abbrev pub invariant-loop-child : goal.invariant-loop-child
invariant-loop-child l =
    record {
      within : l.total ≤ l.child-index;
      told : IsContext l.schema l.self → stands_in l.schema (parent_of l.self) l.fn.id ≡ true
          → passes l.schema l.fn.id ≡ true
          → l.total + count_of l.schema (drop l.child-index (children_of l.schema l.fn.id)) (members_of l.self) ≡ count_of l.schema (children_of l.schema l.fn.id) (members_of l.self);
    }
