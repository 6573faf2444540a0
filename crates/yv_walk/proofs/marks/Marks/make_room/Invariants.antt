use Rattle.std.proofs.Common.{◌≡◌, ◌<◌, ◌||◌, ℕ, length, true, ◌≤◌}
use Rattle.yv_nodes.specs.declared.node.NodeId.{NodeId}
use Rattle.yv_nodes.specs.Rows.{below, rank}
use Rattle.yv_schema_tables.specs.Sound.{IsSound}
use Rattle.yv_walk.specs.InnerMarks.{has_room}
use Rattle.yv_walk.specs.Marks.{mark_at}
use Rattle.yv_walk.specs.Existence.{passes, holds}
use Rattle.yv_walk.proofs.Above.{is_at}
use Rattle.yv_walk.proofs.marks.Marks.make_room.Given as goal

-- the marks are as before; each choice and case that contains the node has room, or is still to
-- come
abbrev pub invariant-loop-here : goal.invariant-loop-here
invariant-loop-here l =
    record {
      sound : IsSound l.schema;
      within : rank l.here ≤ length l.schema.nodes;
      same : (n : ℕ) → mark_at l.self n ≡ mark_at l.initial.self n;
      room : (a : NodeId) → a.0 < length l.schema.nodes → passes l.schema a ≡ true → holds (rank a) (below l.schema a) l.fn.id ≡ true
          → (is_at l.schema a l.here || has_room l.self a.0) ≡ true;
    }

abbrev pub decreases-loop-here : goal.decreases-loop-here
decreases-loop-here l = rank l.here
