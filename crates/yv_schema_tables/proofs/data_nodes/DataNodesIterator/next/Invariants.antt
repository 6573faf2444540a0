use Rattle.std.proofs.Common.{◌≡◌, ◌≤◌, ◌+◌, length}
use Rattle.yv_schema_tables.specs.DataNodes.{data_nodes_from}
use Rattle.yv_schema_tables.proofs.data_nodes.DataNodesIterator.next.Given as goal

abbrev pub invariant-loop-node : goal.invariant-loop-node
invariant-loop-node l =
    (data_nodes_from l.self-inside.next l.self-inside.rest.now ≡ data_nodes_from l.initial.self-inside.next l.initial.self-inside.rest.now)
    × (length l.self-inside.rest.now + l.self-inside.next ≤ 4294967295)

abbrev pub decreases-loop-node : goal.decreases-loop-node
decreases-loop-node l = length l.self-inside.rest.now
