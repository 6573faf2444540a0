use Rattle.std.proofs.Common.{◌≡◌, map, take}
use Rattle.yv_expand.specs.Tree.{Node}
use Rattle.yv_expand_tree.specs.FinalTree.{source_at}
use Rattle.yv_schema.proofs.notes.sources.Given as goal

abbrev pub invariant-loop-node : goal.invariant-loop-node
invariant-loop-node l = l.givers.items ≡ map (λ (x : Node). source_at l.tree.spots l.tree.augments x.origin) (take l.node-index l.tree.left)
