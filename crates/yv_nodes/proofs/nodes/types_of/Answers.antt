use Rattle.std.proofs.Common.{rules, ◌≡◌, ℕ, List, [], ◌∷◌, ◌++◌, length, map, take, refl, sym, ap, ap₂, ◌∙◌, arith}
use Rattle.std.proofs.lemmas.List.{take_all}
use Rattle.yv_values.specs.Types.{Plain}
use Rattle.yv_nodes.specs.declared.node.NodeId.{NodeId}
use Rattle.yv_nodes.specs.NodeTypes.{types_at}
use Rattle.yv_nodes.specs.InnerTypes.{types_in}
use Rattle.yv_nodes.proofs.nodes.types_of.Goals as goal

pub returns : goal.returns
returns c = c.loop-origin.invariant ∙ ap (map (λ (o : NodeId). types_at c.args.nodes.now o.0)) (take_all c.loop-origin.origin-index c.args.origins.now c.loop-origin-test.false)
