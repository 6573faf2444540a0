use Rattle.std.proofs.Common.{◌≡◌, ◌∙◌, not, List, Option, Some, IfSome, map, ap, sym, subst, Vec, Global}
use Rattle.yv_nodes.specs.declared.node.NodeId.{NodeId}
use Rattle.yv_nodes.specs.Rows.{Row}
use Rattle.yv_node_keys.specs.Numbers.{key_leaf_at}
use Rattle.yv_node_keys.proofs.Listing.{none_missing}
use Rattle.yv_node_keys.proofs.Meeting.{missing_by}
use Rattle.yv_node_keys.proofs.keys.key_leafs_like.Goals as goal

pub returns-clause-refuses : goal.returns-clause-refuses
returns-clause-refuses c = λ ts are p at. c.in_ok-leafs.ensures.lacks ∙ ap not (missing_by ts c.args.nodes.now.rows c.args.list p c.args.keys.now are at)

pub returns-in-Some-clause-refuses : goal.returns-in-Some-clause-refuses
returns-in-Some-clause-refuses c = λ ts is p at.
    let rows : List Row = c.args.nodes.now.rows in
    let leafs : Vec NodeId Global = c.in-Some.known in
    let P : Option (Vec NodeId Global) → Type 0 = λ o. IfSome o (λ ns. map (λ n. Some n) ns.items ≡ map (key_leaf_at rows c.args.list) c.args.keys.now) in
    let are : P (Some leafs) = subst P c.in-Some.is c.in_ok-known.ensures in
    let none = none_missing (key_leaf_at rows c.args.list) c.args.keys.now leafs.items are in
    sym (ap not none) ∙ ap not (missing_by ts rows c.args.list p c.args.keys.now is at)
