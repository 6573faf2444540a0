use Rattle.std.proofs.Common.{◌≡◌, map, take}
use Rattle.yv_node_leafrefs.proofs.leafrefs.all_numbered.Given as goal

abbrev pub invariant-loop-number : goal.invariant-loop-number
invariant-loop-number l = map (λ n. n.0) l.nodes.items ≡ take l.number-index l.numbers
