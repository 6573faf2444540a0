use Rattle.std.proofs.Common.{◌≤◌, Some, length, sym, ◌∙◌, ap, arith}
use Rattle.std.proofs.lemmas.List.{length-map}
use Rattle.std.proofs.lemmas.Option.{none-some, slice_get-get_or}
use Rattle.yv_node_leafrefs.specs.InnerNames.{told_of}
use Rattle.yv_node_leafrefs.specs.InnerOutline.{rows_in}
use Rattle.yv_node_leafrefs.specs.InnerIndex.{table_of}
use Rattle.yv_node_leafrefs.proofs.PathSteps.{leads_next, leads_nowhere, leads_done}
use Rattle.yv_node_leafrefs.proofs.walk.walk.Goals as goal

pub returns-in_err-node : goal.returns-in_err-node
returns-in_err-node c o steps draft same t =
    let d = c.args.draft.now in
    let at = slice_get-get_or c.args.strides.now c.loop-stride.stride-index _ c.loop-stride-test.true in
    let nowhere = leads_nowhere (rows_in o) (told_of d.names) (table_of d.index) draft.found c.args.own c.args.strides.now steps same c.loop-stride.stride-index _ at c.loop-stride.place (Some t) (sym c.in_err-node.ensures) in
    (λ h. absurd (none-some t (sym c.from_residual.ensures ∙ h)), λ l. absurd (nowhere ((c.loop-stride.invariant o steps draft same (Some t)).1 l)))

pub loop-stride-preserved : goal.loop-stride-preserved
loop-stride-preserved c o steps draft same b =
    let d = c.args.draft.now in
    let at = slice_get-get_or c.args.strides.now c.loop-stride.stride-index _ c.loop-stride-test.true in
    let next = leads_next (rows_in o) (told_of d.names) (table_of d.index) draft.found c.args.own c.args.strides.now steps same c.loop-stride.stride-index _ at c.loop-stride.place b c.in_ok-node.node (sym c.in_ok-node.ensures) in
    (λ l. (c.loop-stride.invariant o steps draft same b).0 (next.1 l), λ l. next.0 ((c.loop-stride.invariant o steps draft same b).1 l))

pub returns : goal.returns
returns c o steps draft same t =
    let past : length steps ≤ c.loop-stride.stride-index = omega (arith, ap length same ∙ length-map steps _, c.loop-stride-test.false) in
    let done = leads_done (rows_in o) c.args.own steps c.loop-stride.stride-index c.loop-stride.place (Some t) past in
    (λ h. (c.loop-stride.invariant o steps draft same (Some t)).0 (done.1 h), λ l. done.0 ((c.loop-stride.invariant o steps draft same (Some t)).1 l))
