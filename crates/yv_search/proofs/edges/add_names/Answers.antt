use Rattle.std.proofs.Common.{◌∙◌, map, ap}
use Rattle.std.specs.Option.{option_map}
use Rattle.std.proofs.lemmas.Option.{slice_get-map, slice_get-get_or}
use Rattle.yv_search.specs.InnerModules.{lookup}
use Rattle.yv_search.specs.InnerEdges.{part_edges}
use Rattle.yv_search.proofs.ListSteps.{flat_more}
use Rattle.yv_search.proofs.edges.add_names.Goals as goal

pub loop-part-preserved : goal.loop-part-preserved
loop-part-preserved c =
    flat_more (part_edges c.args.origin.number (lookup c.args.origin.prefixes.now) c.args.way) (map (λ p. p.now) c.deref-part-items.result.now) c.loop-part.part-index _ c.args.edges.now.items c.loop-part.edges.items c.add_part.new.edges.items
    (slice_get-map (λ p. p.now) c.deref-part-items.result.now c.loop-part.part-index ∙ ap (option_map (λ p. p.now)) (slice_get-get_or c.deref-part-items.result.now c.loop-part.part-index _ c.loop-part-test.true))
    c.loop-part.invariant c.in_ok-add_part.ensures
