use Rattle.std.proofs.Common.{◌∙◌, ℕ, List, ap}
use Rattle.std.proofs.lemmas.List.{take_all}
use Rattle.std.proofs.lemmas.Option.{slice_get-get_or}
use Rattle.yv_expand_rounds.specs.declared.arrivals.Arrival.{Arrival}
use Rattle.yv_expand_uses.specs.InnerLeadingPaths.{paths_of, targets_of}
use Rattle.yv_expand_uses.specs.RefineTargets.{node_at}
use Rattle.yv_expand_uses.proofs.NodePaths.{are_led, taken_more}
use Rattle.yv_expand_uses.proofs.leading_paths.LeadingPaths.read.Goals as goal

pub loop-arrival-preserved : goal.loop-arrival-preserved
loop-arrival-preserved c =
    let arrivals : List Arrival = c.args.arrivals.now in
    let i : ℕ = c.loop-arrival.arrival-index in
    record {
      paths = taken_more (λ (x : Arrival). x.path) arrivals i _ c.loop-arrival.leading_paths.paths.items _ (slice_get-get_or arrivals i _ c.loop-arrival-test.true) c.in_ok-note.ensures.paths c.loop-arrival.invariant.paths;
      targets = taken_more (λ (x : Arrival). node_at x.end) arrivals i _ c.loop-arrival.leading_paths.targets.items _ (slice_get-get_or arrivals i _ c.loop-arrival-test.true) c.in_ok-note.ensures.targets c.loop-arrival.invariant.targets;
    }

pub returns : goal.returns
returns c = λ labels st end group all are.
    let whole = take_all c.loop-arrival.arrival-index c.args.arrivals.now c.loop-arrival-test.false in
    are_led labels st end group all c.args.arrivals.now c.loop-arrival.leading_paths are
    (c.loop-arrival.invariant.paths ∙ ap paths_of whole) (c.loop-arrival.invariant.targets ∙ ap targets_of whole)
