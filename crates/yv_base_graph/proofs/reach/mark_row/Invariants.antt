use Rattle.std.proofs.Common.{take}
use Rattle.yv_base_graph.specs.InnerMarks.{MarksRow}
use Rattle.yv_base_graph.proofs.reach.mark_row.Given as goal

abbrev pub invariant-loop-node : goal.invariant-loop-node
invariant-loop-node l = MarksRow (take l.node-index l.row) l.fn.marks.items l.fn.found.items l.marks.items l.found.items
