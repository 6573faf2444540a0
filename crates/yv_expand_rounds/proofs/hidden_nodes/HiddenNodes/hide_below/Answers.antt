use Rattle.std.proofs.Common.{◌≡◌, ◌<◌, ◌≤◌, Some, length, refl, arith}
use Rattle.std.specs.List.{slice_get}
use Rattle.std.proofs.lemmas.Option.{slice_get_read}
use Rattle.yv_expand_rounds.proofs.DisplacedNodes.{spreading_all, spreading_more}
use Rattle.yv_expand_rounds.proofs.hidden_nodes.HiddenNodes.hide_below.Goals as goal

pub loop-place-preserved : goal.loop-place-preserved
loop-place-preserved c = λ labels groups are.
    let l : c.loop-place.place < length c.loop-place.found.items = omega (arith, c.loop-place-test.true, c.len.ensures) in
    let at : slice_get c.loop-place.found.items c.loop-place.place ≡ Some c.index-item.result.now =
    slice_get_read c.loop-place.found.items _ c.loop-place.place c.index-item.result.now refl l c.index-item.ensures in
    spreading_more groups c.args.self.now.marks.items c.loop-place.self.marks.items c.hide_all.new.self.marks.items c.args.found.items c.loop-place.found.items
    c.hide_all.new.found.items c.loop-place.place c.index-item.result.now c.children.result.now (c.loop-place.invariant labels groups are) at
    (c.children.ensures labels groups are) c.in_ok-hide_all.ensures.hides c.in_ok-hide_all.ensures.covers

pub returns : goal.returns
returns c = λ labels groups are.
    let past : length c.loop-place.found.items ≤ c.loop-place.place = omega (arith, c.loop-place-test.false, c.len.ensures) in
    spreading_all groups c.args.self.now.marks.items c.loop-place.self.marks.items c.args.found.items c.loop-place.found.items c.loop-place.place past
    (c.loop-place.invariant labels groups are)
