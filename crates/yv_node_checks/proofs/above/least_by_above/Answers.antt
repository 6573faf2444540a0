use Rattle.std.proofs.Common.{◌≡◌, ◌≤◌, ◌∷◌, length, refl, sym, ap, ◌∙◌, arith, List, length-append, subst, ℕ, [], Option, Some}
use Rattle.yv_text_statement.specs.declared.refusal.Refusal.{Refusal}
use Rattle.std.specs.List.{slice_get}
use Rattle.std.specs.Option.{option_map}
use Rattle.std.proofs.lemmas.Option.{slice_get_read}
use Rattle.yv_text_statement.specs.Order.{Among, IsLeast}
use Rattle.yv_text_statement.proofs.Least.{least_more}
use Rattle.yv_nodes.specs.declared.node.NodeId.{NodeId}
use Rattle.yv_nodes.specs.Tree.{Forest, Label}
use Rattle.yv_nodes.specs.Places.{Place, places}
use Rattle.yv_nodes.specs.Rows.{Row}
use Rattle.yv_nodes.specs.InnerSpots.{AreRows}
use Rattle.yv_node_checks.proofs.Spots.{IsNumbered, is_numbered, length_rows}
use Rattle.yv_node_checks.specs.declared.lineage.Ancestry.{Ancestry}
use Rattle.yv_node_checks.specs.Above.{BadBelow, line}
use Rattle.yv_node_checks.specs.InnerAncestry.{ancestry_at, ancestry_of, label_in, nearest_of}
use Rattle.yv_node_checks.proofs.AncestryTable.{kept_more, nearest_is, ancestry_is}
use Rattle.yv_node_checks.proofs.above.least_by_above.Goals as goal

-- what one more node adds
record Step (ts : Forest) (i : ℕ) (r : Row) (above_is own_is : Ancestry) (wrong : Option Refusal) : Type 0 where
  place : Place
  at : slice_get (places ts) i ≡ Some place
  own : own_is ≡ ancestry_of (line place)
  here : IsLeast (BadBelow place) wrong

pub loop-node-preserved : goal.loop-node-preserved
loop-node-preserved c =
    let rows = c.args.nodes.now in
    let i = c.loop-node.node-index in
    let few : length rows ≤ 4294967295 = omega (arith, c.requires) in
    let few_kept : length c.loop-node.lineage.items ≤ 4294967295 = omega (arith, c.requires, c.loop-node.invariant.many, c.loop-node-test.true) in
    let at = slice_get_read rows _ i c.node-item.result refl c.loop-node-test.true c.node-item.is in
    let kept_now : c.ancestry_at-above.result ≡ ancestry_at c.loop-node.lineage.items c.parent.result = rw c.deref.ensures.value at c.ancestry_at-above.ensures in
    let step : (ts : Forest) (are : AreRows rows ts) → Step ts i c.node-item.result c.ancestry_at-above.result c.below.result c.wrong_below-here.result = λ ts are.
    let row : IsNumbered ts i c.node-item.result = is_numbered ts i c.node-item.result (ap (λ (rs : List Row). slice_get rs i) (sym are) ∙ at) in
    let p : Place = row.spot.place in
    let label : c.node-item.result.label ≡ p.label = ap (λ (r : Row). r.label) row.is in
    let parent : c.parent.result ≡ row.spot.parent = c.parent.ensures ∙ ap (λ (r : Row). r.parent) row.is in
    let other_parent : c.parent-in-loop-node.result ≡ row.spot.parent = c.parent-in-loop-node.ensures ∙ ap (λ (r : Row). r.parent) row.is in
    let above : c.ancestry_at-above.result ≡ ancestry_of p.above =
    kept_now ∙ ap (ancestry_at c.loop-node.lineage.items) parent ∙ ancestry_is ts c.loop-node.lineage.items i row.spot.parent p.above few_kept (c.loop-node.invariant.kept ts are) row.known.under in
    let near : option_map label_in (option_map _ c.node_at.result) ≡ nearest_of p.above =
    ap (option_map label_in) (c.node_at.ensures ∙ ap (λ (q : NodeId). slice_get rows q.0) other_parent) ∙ nearest_is rows ts i row.spot.parent p.above few are row.known.under in
    record {
      place = p;
      at = row.at_place;
      own = c.below.ensures p.above above ∙ ap (λ (m : Label). ancestry_of (m ∷ p.above)) label;
      here = c.wrong_below-here.ensures p label above near;
    } in
    record {
      many = omega (arith, c.loop-node.invariant.many, ap length c.in_ok-push.ensures.items, length-append c.loop-node.lineage.items (c.below.result ∷ []));
      kept = λ ts are.
          let s = step ts are in
          kept_more ts c.loop-node.lineage.items c.push.new.self.items i s.place c.below.result (c.loop-node.invariant.kept ts are) c.loop-node.invariant.many s.at s.own c.in_ok-push.ensures.items;
      least = λ ts are.
          let s = step ts are in
          least_more (places ts) (λ k. BadBelow) i s.place _ _ _ s.at c.lesser-least.ensures (c.loop-node.invariant.least ts are) s.here;
    }

pub returns : goal.returns
returns c = λ ts are.
    let all : length (places ts) ≡ c.loop-node.node-index = sym (length_rows ts) ∙ ap length (sym are) ∙ omega arith in
    subst (λ (n : ℕ). IsLeast (Among (places ts) (λ k. BadBelow) n) c.loop-node.least) (sym all) (c.loop-node.invariant.least ts are)
