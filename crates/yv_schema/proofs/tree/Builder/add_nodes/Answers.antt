use Rattle.std.proofs.Common.{◌≡◌, ℕ, ◌<◌, ◌≤◌, arith, length, List, [], Bool, refl, sym, ap, ◌∙◌, ◌++◌, subst, append-nil, Some, get_or}
use Rattle.std.specs.List.{All, slice_get}
use Rattle.std.specs.Option.{IfSome}
use Rattle.std.proofs.lemmas.List.{at_drop_all}
use Rattle.std.proofs.lemmas.Option.{slice_get-get_or}
use Rattle.yv_schema.specs.Families.{lists_of}
use Rattle.yv_expand.specs.Tree.{Node}
use Rattle.yv_nodes.specs.declared.node.NodeId.{NodeId}
use Rattle.yv_nodes.specs.Rows.{Row, blank_row, rank}
use Rattle.yv_nodes.specs.Above.{View, seen_of}
use Rattle.yv_schema.specs.InnerBasis.{label_at}
use Rattle.yv_schema.specs.InnerRows.{AreSeen, IsWithin, line_at, line_of, no_node, numbers_at, parent_of, row_of, rows_of_items}
use Rattle.yv_schema.proofs.Numbering.{rank_within}
use Rattle.yv_schema.proofs.SchemaTreeRows.{key_is, kept_more, kept_none, shared, within_more}
use Rattle.yv_schema.proofs.tree.Builder.add_nodes.Goals as goal

above_first : (xs : List Node) (place : ℕ) → ((k : ℕ) (x : Node) → slice_get xs k ≡ Some x → IsWithin x.parent k) → place < length xs → IsWithin (get_or xs place no_node).parent place
above_first xs place parents lt = parents place (get_or xs place no_node) (slice_get-get_or xs place no_node lt)

pub loop-place-init : goal.loop-place-init
loop-place-init c = record {
  kept = λ b tells module_files. kept_none b (lists_of c.args.below.now) _ c.args.items.now c.args.nodes.now.rows c.in_ok-aboves.ensures.items c.requires.none;
  limit = refl;
  grown = omega arith;
}

pub parent_of-parent-requires : goal.parent_of-parent-requires
parent_of-parent-requires c =
    let place : ℕ = c.loop-place.place in
    within_more (get_or c.args.items.now place no_node).parent place 4294967296 (omega (arith, c.loop-place-test.true, c.requires.few))
    (above_first c.args.items.now place c.requires.parents c.loop-place-test.true)

pub numbers_at-requires : goal.numbers_at-requires
numbers_at-requires c = subst (λ (ps : List ℕ). All (λ (p : ℕ). p < 4294967296) ps) (sym c.places_at.ensures) (c.requires.children c.loop-place.place)

pub precedent-requires-clause-each : goal.precedent-requires-clause-each
precedent-requires-clause-each c = omega (arith, c.loop-place.invariant.grown, ap (length {A = Row}) c.requires.none)

pub add_node-requires-clause-parent : goal.add_node-requires-clause-parent
add_node-requires-clause-parent c =
    let place : ℕ = c.loop-place.place in
    let x : Node = get_or c.args.items.now place no_node in
    let within : IsWithin x.parent place = above_first c.args.items.now place c.requires.parents c.loop-place-test.true in
    subst (λ (p : NodeId). rank p ≤ length c.loop-place.nodes.rows) (sym (c.in_ok-made.ensures.parent ∙ c.parent_of-parent.ensures))
    (rank_within x.parent place (length c.loop-place.nodes.rows) within (omega (arith, c.loop-place.invariant.grown)))

pub add_node-requires-clause-few : goal.add_node-requires-clause-few
add_node-requires-clause-few c = omega (arith, c.loop-place.invariant.grown, ap (length {A = Row}) c.requires.none, c.loop-place-test.true, c.requires.few)

pub add_node-requires-clause-earlier : goal.add_node-requires-clause-earlier
add_node-requires-clause-earlier c =
    let many : length c.loop-place.nodes.rows ≡ c.loop-place.place = omega (arith, c.loop-place.invariant.grown, ap (length {A = Row}) c.requires.none) in
    subst (λ (n : ℕ). IfSome c.in_ok-shown.shown.earlier (λ (e : ℕ). e < n)) (sym many) c.in_ok-shown.ensures.before

pub loop-place-preserved : goal.loop-place-preserved
loop-place-preserved c = record {
  kept = λ b tells module_files.
      let below = lists_of c.args.below.now in
      let xs : List Node = c.args.items.now in
      let i : ℕ = c.loop-place.place in
      let x : Node = get_or xs i no_node in
      let rows : List Row = c.loop-place.nodes.rows in
      let old : List Row = c.args.nodes.now.rows in
      let seen : List View = c.loop-place.aboves.items in
      let k = c.loop-place.invariant.kept b tells module_files in
      let above = line_at k.lines x.parent in
      let many : length rows ≡ i = omega (arith, c.loop-place.invariant.grown, ap (length {A = Row}) c.requires.none) in
      let within : IsWithin x.parent i = above_first xs i c.requires.parents c.loop-place-test.true in
      let are : c.in_ok-children.children.items ≡ numbers_at (get_or below i []) = c.in_ok-children.ensures ∙ ap numbers_at c.places_at.ensures in
      let sees : c.above_at-above.result.now ≡ seen_of above = c.above_at-above.ensures k.lines c.top-top.ensures (subst (λ (seen : List View). AreSeen k.lines seen) (sym c.deref.ensures.value) k.are) in
      let known : IfSome c.in_ok-shown.shown.is_key (λ (known : Bool). known ≡ (label_at b above x.origin).is_key) =
      subst (λ (v : Bool). IfSome c.in_ok-shown.shown.is_key (λ (known : Bool). known ≡ v)) (sym (key_is b below seen i xs rows old k x within)) (c.in_ok-shown.ensures.key b tells k.noted) in
      let made : c.in_ok-made.made.node ≡ row_of b above x (parent_of x.parent) (numbers_at (get_or below i [])) =
      c.in_ok-made.ensures.node b above tells module_files sees known ∙ ap (λ (p : NodeId). row_of b above x p c.in_ok-children.children.items) c.parent_of-parent.ensures
      ∙ ap (row_of b above x (parent_of x.parent)) are in
      let told : c.in_ok-made.made.above_others ≡ seen_of (line_of b k.lines x) = c.in_ok-made.ensures.above b above tells module_files sees known in
      let same : IfSome c.in_ok-shown.shown.earlier (λ (e : ℕ). (get_or rows e blank_row).label.defined ≡ c.in_ok-made.made.node.label.defined) =
      shared b xs rows i c.in_ok-made.made.node c.in_ok-shown.shown.earlier k.noted many c.in_ok-shown.ensures.before (c.in_ok-shown.ensures.same b tells) (ap (λ (r : Row). r.label.defined) made) in
      kept_more b below seen i xs rows old k c.push.new.self.items c.in_ok-made.made.above_others c.add_node.new.nodes.rows c.in_ok-made.made.node
      c.loop-place-test.true many c.in_ok-push.ensures.items (c.in_ok-add_node.ensures.rows same) made told within;
  limit = c.in_ok-add_node.ensures.limit ∙ c.loop-place.invariant.limit;
  grown = omega (arith, c.in_ok-add_node.ensures.count, c.loop-place.invariant.grown);
}

pub returns-clause-rows : goal.returns-clause-rows
returns-clause-rows c = λ b tells module_files.
    let k = c.loop-place.invariant.kept b tells module_files in
    let now = c.loop-place.nodes.rows in
    let none = at_drop_all (rows_of_items b (lists_of c.args.below.now) k.lines c.loop-place.place) c.args.items.now c.loop-place.place c.loop-place-test.false in
    sym (append-nil now) ∙ ap (λ (rs : List Row). now ++ rs) (sym none) ∙ k.rows
