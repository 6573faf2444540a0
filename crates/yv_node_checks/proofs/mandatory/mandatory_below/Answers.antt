use Rattle.std.proofs.Common.{◌-◌, length, refl, ap, ◌∙◌, arith, List, Bool}
use Rattle.std.specs.List.{list_any}
use Rattle.std.proofs.lemmas.List.{length-set}
use Rattle.std.proofs.lemmas.Option.{slice_get_read}
use Rattle.yv_nodes.specs.declared.node.NodeId.{NodeId}
use Rattle.yv_node_checks.specs.InnerBelow.{is_needed_at}
use Rattle.yv_node_checks.proofs.Below.{below_more, below_none}
use Rattle.yv_node_checks.proofs.mandatory.mandatory_below.Goals as goal

pub loop-number-init : goal.loop-number-init
loop-number-init c = record {
  many = omega (arith, c.in_ok-below.below.ok, c.in_ok-below.ensures.len);
  known = λ ts are. below_none c.args.nodes.now ts c.in_ok-below.below.items (length c.args.nodes.now) are refl;
}

pub loop-number-preserved : goal.loop-number-preserved
loop-number-preserved c =
    let rows = c.args.nodes.now in
    let i = c.loop-number.number - 1 in
    let at = slice_get_read rows _ i c.index-nodes-number.result refl (omega arith) c.index-nodes-number.is in
    record {
      many = omega (arith, length-set c.loop-number.below.items i c.any_needed-inner.result, c.loop-number.invariant.many);
      known = λ ts are.
          let children_is = c.any_needed-inner.ensures ∙ ap (λ (bs : List Bool). list_any (is_needed_at rows bs) c.children.result.now) c.deref.ensures.value
          ∙ ap (λ (cs : List NodeId). list_any (is_needed_at rows c.loop-number.below.items) cs) c.children.ensures in
          below_more rows ts c.loop-number.below.items i c.loop-number.number c.index-nodes-number.result c.any_needed-inner.result are (c.loop-number.invariant.known ts are) (omega arith)
          c.loop-number.invariant.many at children_is;
    }
