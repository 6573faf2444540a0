use Rattle.std.proofs.Common.{◌≡◌, ◌∙◌, ◌++◌, ℕ, List, Option, Some, map, sym, ap}
use Rattle.std.specs.List.{slice_get}
use Rattle.std.proofs.lemmas.List.{append-nil}
use Rattle.yv_search.specs.InnerModules.{lookup}
use Rattle.yv_search.specs.InnerPrefixes.{Refs}
use Rattle.yv_search.specs.InnerEdges.{place, name_edges, edges_by, place_edges}
use Rattle.yv_search.specs.declared.edges.Way.{Way}
use Rattle.yv_search.proofs.ListSteps.{get_map, flat_more}
use Rattle.yv_search.proofs.edges.add_places.Goals as goal
use Rattle.yv_search.proofs.edges.add_places.Goals.{in-Some+in_ok-add_names, in_default}

pub loop-at-preserved : goal.loop-at-preserved
loop-at-preserved c =
    let n : ℕ = c.args.origin.number in
    let meanings : Refs = lookup c.args.origin.prefixes.now in
    let argument : Option (List ℕ) = c.at-item.result.statement.now.head.argument in
    let at : slice_get (map place c.deref-at-items.result.now) c.loop-at.at-index ≡ Some (place c.at-item.result) = get_map place c.deref-at-items.result.now c.loop-at.at-index c.at-item.result c.loop-at-test.true c.at-item.is in
    elim c.match-way_of.branch [
      | in-Some+in_ok-add_names w ↦ rw w.edges-is (flat_more (place_edges n meanings) (map place c.deref-at-items.result.now) c.loop-at.at-index (place c.at-item.result) c.args.edges.now.items c.loop-at.edges.items w.add_names.new.edges.items at c.loop-at.invariant
          (w.in_ok-add_names.ensures
          ∙ ap (λ (a : Option (List ℕ)). c.loop-at.edges.items ++ name_edges n meanings w.in-Some.way a) w.argument.ensures
          ∙ ap (λ (o : Option Way). c.loop-at.edges.items ++ edges_by n meanings o argument) (sym w.in-Some.is ∙ c.way_of.ensures)))
      | in_default w ↦ rw w.edges-is (flat_more (place_edges n meanings) (map place c.deref-at-items.result.now) c.loop-at.at-index (place c.at-item.result) c.args.edges.now.items c.loop-at.edges.items c.loop-at.edges.items at c.loop-at.invariant
          (sym (append-nil c.loop-at.edges.items)
          ∙ ap (λ (o : Option Way). c.loop-at.edges.items ++ edges_by n meanings o argument) (sym w.in_default.is ∙ c.way_of.ensures)))
    ]
