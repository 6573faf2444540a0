use Rattle.std.proofs.Common.{◌≡◌, Some, sym, ◌∙◌, subst, Vec, Global}
use Rattle.std.proofs.lemmas.Option.{same_Some}
use Rattle.yv_nodes.specs.declared.node.NodeId.{NodeId}
use Rattle.yv_node_keys.specs.InnerTargets.{HasLeafs}
use Rattle.yv_node_keys.proofs.targets.keep_both.Goals as goal

pub returns-in-Some-Some-clause-up_to : goal.returns-in-Some-Some-clause-up_to
returns-in-Some-Some-clause-up_to c = λ rows ks us keys uniques has before.
    let n = c.args.list.0 in
    let one : ks ≡ c.in-Some-Some.keys = same_Some ks c.in-Some-Some.keys (sym keys ∙ c.in-Some-Some.is-0) in
    let two : us ≡ c.in-Some-Some.uniques = same_Some us c.in-Some-Some.uniques (sym uniques ∙ c.in-Some-Some.is-1) in
    c.keep_leafs.ensures.up_to rows
    (subst (λ (v : Vec NodeId Global). HasLeafs rows n (Some (record { keys = v; uniques = c.in-Some-Some.uniques }))) one
    (subst (λ (v : Vec (Vec NodeId Global) Global). HasLeafs rows n (Some (record { keys = ks; uniques = v }))) two has)) before

pub returns-in-Some-Some-clause-right : goal.returns-in-Some-Some-clause-right
returns-in-Some-Some-clause-right c = λ rows has before.
    c.keep_leafs.ensures.right rows (has c.in-Some-Some.keys c.in-Some-Some.uniques c.in-Some-Some.is-0 c.in-Some-Some.is-1) before
