use Rattle.std.proofs.Common.{◌≡◌, ℕ, List, map, take}
use Rattle.yv_values.specs.Types.{Plain}
use Rattle.yv_nodes.specs.declared.node.NodeId.{NodeId}
use Rattle.yv_nodes.specs.NodeTypes.{types_at}
use Rattle.yv_nodes.specs.InnerTypes.{types_in}
use Rattle.yv_nodes.proofs.nodes.types_of.Given as goal

abbrev pub invariant-loop-origin : goal.invariant-loop-origin
invariant-loop-origin l = map types_in l.lists.items ≡ map (λ (o : NodeId). types_at l.nodes o.0) (take l.origin-index l.origins)
