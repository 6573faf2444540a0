use Rattle.std.proofs.Common.{◌≡◌, ◌<◌, length, true, ◌≤◌}
use Rattle.yv_nodes.specs.declared.node.NodeId.{NodeId}
use Rattle.yv_nodes.specs.Rows.{below, rank}
use Rattle.yv_schema_tables.specs.Sound.{IsSound}
use Rattle.yv_walk.specs.InnerMarks.{has_room}
use Rattle.yv_walk.specs.Marks.{with_node, mark_at}
use Rattle.yv_walk.specs.Existence.{passes, holds}
use Rattle.yv_walk.proofs.Above.{is_at}
use Rattle.yv_walk.proofs.marks.Marks.mark_all.Given as goal

-- with the marks that are still to come, all are made; there is room for these
abbrev pub invariant-loop-id : goal.invariant-loop-id
invariant-loop-id l =
    record {
      sound : IsSound l.schema;
      within : rank l.here ≤ length l.schema.nodes;
      marks : (a : NodeId) → a.0 < length l.schema.nodes → passes l.schema a ≡ true
          → with_node (is_at l.schema a l.here) (mark_at l.self a.0) l.id ≡ with_node (holds (rank a) (below l.schema a) l.id) (mark_at l.initial.self a.0) l.id;
      room : (a : NodeId) → a.0 < length l.schema.nodes → passes l.schema a ≡ true → is_at l.schema a l.here ≡ true → has_room l.self a.0 ≡ true;
    }

abbrev pub decreases-loop-id : goal.decreases-loop-id
decreases-loop-id l = rank l.here
