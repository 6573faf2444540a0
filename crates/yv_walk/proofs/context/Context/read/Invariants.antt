use Rattle.std.proofs.Common.{◌≡◌, ◌+◌, ◌++◌, map, true}
use Rattle.serde_json.specs.View.{members_view}
use Rattle.yv_values.specs.Count.{count_up}
use Rattle.yv_nodes.specs.declared.node.NodeId.{NodeId}
use Rattle.yv_nodes.specs.Rows.{below, rank}
use Rattle.yv_schema_tables.specs.Sound.{object_trees}
use Rattle.yv_walk.specs.Context.{members_len, unknown_names}
use Rattle.yv_walk.specs.Marks.{mark_at}
use Rattle.yv_walk.specs.MemberNodes.{AreKeys}
use Rattle.yv_walk.specs.Existence.{both, passes, existence_of, stands_in}
use Rattle.yv_walk.specs.WrittenValues.{value_at}
use Rattle.yv_walk.proofs.MemberValues.{AreHeld}
use Rattle.yv_walk.proofs.context.Context.read.Given as goal

-- with the members that are left, the values, what exists, the unknown names and the steps are
-- those of all members
abbrev pub invariant-loop-key : goal.invariant-loop-key
invariant-loop-key l =
    record {
      keys : AreKeys (members_view l.key-iterator);
      held : AreHeld l.schema l.parent (value_at l.values) (members_view l.key-iterator) (members_view l.members.entries);
      marks : (a : NodeId) → stands_in l.schema l.parent a ≡ true → passes l.schema a ≡ true
          → both (mark_at l.marks a.0) (existence_of (rank a) (below l.schema a) (members_view l.key-iterator)) ≡ existence_of (rank a) (below l.schema a) (members_view l.members.entries);
      names : map (λ k. k.now) l.unknown.items ++ unknown_names (object_trees l.schema l.parent) (members_view l.key-iterator)
          ≡ unknown_names (object_trees l.schema l.parent) (members_view l.members.entries);
      steps : count_up (l.lookups + members_len (members_view l.key-iterator)) ≡ count_up (members_len (members_view l.members.entries));
    }
