use Rattle.std.proofs.Common.{◌≡◌, map, take}
use Rattle.yv_expand.specs.Tree.{Node}
use Rattle.yv_expand_tree.specs.FinalTree.{origin_at}
use Rattle.yv_schema.proofs.leafrefs.origins.Given as goal

abbrev pub invariant-loop-node : goal.invariant-loop-node
invariant-loop-node l = l.origins.items ≡ map (λ (x : Node). origin_at l.tree.items x.origin) (take l.node-index l.tree.left)
