use Rattle.std.proofs.Common.{sym, ◌∙◌, ap}
use Rattle.std.proofs.lemmas.Option.{none-some, same_Some}
use Rattle.yv_nodes.specs.declared.node.NodeId.{NodeId}
use Rattle.yv_node_leafrefs.specs.Targets.{RefersTo}
use Rattle.yv_node_leafrefs.proofs.Exact.{exact, none_at}
use Rattle.yv_node_leafrefs.proofs.all_links.link_of.Goals as goal

pub returns-in_default : goal.returns-in_default
returns-in_default c s are says table link =
    none_at s c.args.node.0
    (λ x refers. let id : NodeId = record { 0 = x } in none-some id (sym c.in_default.is ∙ (c.target.ensures s are id).1 refers)) link

pub returns-in-None : goal.returns-in-None
returns-in-None c s are says table link =
    none_at s c.args.node.0 (λ x refers. none-some refers.ref (c.in-None.ensures ∙ sym says ∙ refers.is_leafref.says)) link

pub returns-in_ok-link-in-Some-leafref_of : goal.returns-in_ok-link-in-Some-leafref_of
returns-in_ok-link-in-Some-leafref_of c s are says table link =
    let n = c.args.node.0 in
    let target : NodeId = c.in-Some.target in
    let ref = c.in-Some-leafref_of.leafref.now in
    let refers : RefersTo s n target.0 = (c.target.ensures s are target).0 c.in-Some.is in
    let found = exact s c.args.above.now table n target.0 ref (says ∙ sym c.in-Some-leafref_of.ensures) refers
    (λ x other. let id : NodeId = record { 0 = x } in
    ap (λ (i : NodeId). i.0) (same_Some target id (sym c.in-Some.is ∙ (c.target.ensures s are id).1 other))) link in
    (λ e. found.0 (sym c.in_ok-link-in-Some-leafref_of.ensures ∙ e), λ is. c.in_ok-link-in-Some-leafref_of.ensures ∙ found.1 is)
