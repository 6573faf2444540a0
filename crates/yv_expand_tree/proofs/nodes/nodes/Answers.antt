use Rattle.std.proofs.Common.{◌∙◌, None}
use Rattle.std.proofs.lemmas.Option.{slice_get-get_or}
use Rattle.yv_expand_tree.specs.InnerNodes.{nodes_of_rows}
use Rattle.yv_expand_tree.proofs.ItemNodes.{last_in, nodes_all, nodes_listed, nodes_step}
use Rattle.yv_expand_tree.proofs.nodes.nodes.Goals as goal

pub loop-place-preserved : goal.loop-place-preserved
loop-place-preserved c =
    nodes_step c.args.tree.now c.loop-place.place _ c.deref.result.now c.loop-place.places.items c.put.new.places.items c.above.result c.loop-place.nodes.items
    c.push.new.self.items (nodes_of_rows (λ d. None) 0 c.args.tree.now) (slice_get-get_or c.args.tree.now c.loop-place.place _ c.loop-place-test.true)
    c.deref.ensures.value c.above.ensures c.in_ok-put.ensures c.in_ok-push.ensures.items c.loop-place.invariant

pub returns : goal.returns
returns c = λ t is.
    nodes_all c.args.tree.now c.loop-place.place (last_in c.loop-place.places.items) c.loop-place.nodes.items
    (nodes_of_rows (λ d. None) 0 c.args.tree.now) c.loop-place-test.false c.loop-place.invariant
    ∙ nodes_listed t c.args.tree.now is
