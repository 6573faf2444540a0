use Rattle.std.proofs.Common.{◌≡◌, ◌+◌, length, refl, ◌∙◌, ap}
use Rattle.std.proofs.lemmas.Option.{slice_get_read}
use Rattle.yv_node_leafrefs.specs.InnerOutline.{AreInside}
use Rattle.yv_node_leafrefs.proofs.AncestorPlaces.{inside_more, longer}
use Rattle.yv_node_leafrefs.proofs.above.operation_marks.Goals as goal

pub loop-node-preserved : goal.loop-node-preserved
loop-node-preserved c =
    let rows = c.args.nodes.now in
    let n = c.loop-node.node-index in
    let known = c.loop-node.invariant in
    let at = slice_get_read rows _ n c.node-item.result refl c.loop-node-test.true c.node-item.is in
    let each : length c.deref.result.now ≡ n = ap length c.deref.ensures.value ∙ known.0 in
    let before : AreInside rows (length c.deref.result.now) c.deref.result.now = rw (each, c.deref.ensures.value) known.1 in (
      ap length c.in_ok-push.ensures.items ∙ longer c.loop-node.inside.items c.is_inside-flag.result ∙ ap (λ k. k + 1) known.0,
      inside_more rows n c.loop-node.inside.items c.push.new.self.items c.is_inside-flag.result known.0 known.1 (c.is_inside-flag.ensures rows n at before) c.in_ok-push.ensures.items,
    )
