use Rattle.std.proofs.Common.{ℕ, List, Option}
use Rattle.std.proofs.lemmas.Option.{slice_get-get_or}
use Rattle.yv_expand_changes.specs.InnerAlike.{way_of_target}
use Rattle.yv_expand_changes.proofs.FirstPaths.{map_next}
use Rattle.yv_expand_changes.proofs.ways.ways_by.Goals as goal

pub loop-path-preserved : goal.loop-path-preserved
loop-path-preserved c =
    let targets : List (Option ℕ) = c.args.targets.now in
    let at = slice_get-get_or targets c.loop-path.path _ c.loop-path-test.true in
    map_next (way_of_target c.args.spots.now targets) targets c.loop-path.path _ c.way_to.result c.loop-path.ways.items c.push.new.self.items at
    (c.way_to.ensures targets c.requires at) c.in_ok-push.ensures.items c.loop-path.invariant
