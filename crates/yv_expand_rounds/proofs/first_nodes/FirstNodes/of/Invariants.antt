use Rattle.std.proofs.Common.{take}
use Rattle.yv_expand_rounds.specs.InnerFirstNodes.{AreFirst}
use Rattle.yv_expand_rounds.proofs.first_nodes.FirstNodes.of.Given as goal

abbrev pub invariant-loop-item : goal.invariant-loop-item
invariant-loop-item l = AreFirst l.labels (take l.item-index l.items) l.nodes
