use Rattle.std.proofs.Common.{◌≡◌, ◌++◌, None, drop, slice_index_or}
use Rattle.yv_expand_tree.specs.InnerNodes.{nodes_of_rows}
use Rattle.yv_expand_tree.proofs.nodes.nodes.Given as goal

abbrev pub invariant-loop-place : goal.invariant-loop-place
invariant-loop-place l = l.nodes.items ++ nodes_of_rows (λ d. slice_index_or l.places.items d None) l.place (drop l.place l.tree) ≡ nodes_of_rows (λ d. None) 0 l.tree
