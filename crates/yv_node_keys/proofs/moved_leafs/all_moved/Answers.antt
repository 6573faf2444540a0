use Rattle.std.proofs.Common.{◌≡◌, ◌∙◌, List, IfSome, false, map, refl, sym, ap, subst, Option, Vec, Global}
use Rattle.std.proofs.lemmas.Option.{slice_get_read}
use Rattle.yv_nodes.specs.declared.node.NodeId.{NodeId}
use Rattle.yv_nodes.specs.Rows.{Row}
use Rattle.yv_node_keys.specs.InnerMixedConfig.{is_mixed_at}
use Rattle.yv_node_keys.specs.InnerShifts.{AreUnmixed, moved_id}
use Rattle.yv_node_keys.proofs.Listing.{lists_more}
use Rattle.yv_node_keys.proofs.PathShifts.{unmixed_more}
use Rattle.yv_node_keys.proofs.moved_leafs.all_moved.Goals as goal

pub loop-leafs-preserved : goal.loop-leafs-preserved
loop-leafs-preserved c =
    let rows : List Row = c.args.nodes.now.rows in
    let by = c.args.shift.by in
    let here : Vec NodeId Global = c.in-Some.leafs in
    let at = slice_get_read c.args.known.now _ c.loop-leafs.leafs-index c.leafs-item.result refl c.loop-leafs-test.true c.leafs-item.is in
    let P : Option (Vec NodeId Global) → Type 0 = λ o. IfSome o (λ v. v.items ≡ map (moved_id by) c.deref.result.now) in
    let Q : Option (Vec NodeId Global) → Type 0 = λ o. IfSome o (λ v. is_mixed_at rows v.items ≡ false) in
    let is : here.items ≡ map (moved_id by) c.leafs-item.result.items = subst P c.in-Some.is c.in_ok-leafs.ensures.moved ∙ ap (map (moved_id by)) c.deref.ensures.value in
    let good : is_mixed_at rows here.items ≡ false = subst Q c.in-Some.is c.in_ok-leafs.ensures.unmixed in
    record {
      moved = lists_more (λ (v : Vec NodeId Global). v.items) (λ (v : Vec NodeId Global). map (moved_id by) v.items) c.args.known.now c.loop-leafs.leafs-index c.leafs-item.result here c.loop-leafs.found.items c.push.new.self.items at is
          c.in_ok-push-in-Some.ensures.items c.loop-leafs.invariant.moved;
      unmixed = subst (AreUnmixed rows) (sym c.in_ok-push-in-Some.ensures.items) (unmixed_more rows c.loop-leafs.found.items here c.loop-leafs.invariant.unmixed good);
    }
