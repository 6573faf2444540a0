use Rattle.std.proofs.Common.{◌≡◌, ◌&&◌, Bool, Option, IfSome, subst}
use Rattle.yv_node_content.specs.Kinds.{is_leaf}
use Rattle.yv_nodes.specs.Labels.{has_key_called}
use Rattle.yv_schema.proofs.tree.node_place.Goals as goal

pub returns-in-Some : goal.returns-in-Some
returns-in-Some c = λ ls seen known module_name parent children.
    let is : Bool = is_leaf c.args.definition.now.kind && has_key_called ls c.args.module_file c.args.definition.now.name in
    let key : c.in-Some.is_key ≡ is = subst (λ (o : Option Bool). IfSome o (λ (k : Bool). k ≡ is)) c.in-Some.is known in
    c.place_with.ensures ls seen key module_name parent children
