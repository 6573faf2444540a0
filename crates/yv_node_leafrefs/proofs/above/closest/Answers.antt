use Rattle.std.proofs.Common.{◌≡◌, ◌<◌, length, refl, sym, ap, ◌∙◌, arith, Some}
use Rattle.std.proofs.lemmas.Option.{slice_get_read}
use Rattle.std.specs.List.{slice_get}
use Rattle.yv_node_content.specs.Kinds.{is_passed}
use Rattle.yv_node_leafrefs.proofs.AncestorPlaces.{closest_none, closest_here, closest_further}
use Rattle.yv_node_leafrefs.proofs.above.closest.Goals as goal

pub returns-in-None : goal.returns-in-None
returns-in-None c = closest_none c.args.nodes.now c.args.place c.in-None.is

pub returns-else-is_passed : goal.returns-else-is_passed
returns-else-is_passed c =
    let p = c.in-Some.number in
    let rows = c.args.nodes.now in
    let within : p < length rows = omega (arith, c.requires.behind p c.in-Some.is, c.requires.within) in
    let at : slice_get rows p ≡ Some c.index-nodes-number.result = slice_get_read rows _ p c.index-nodes-number.result refl within c.index-nodes-number.is in
    closest_here rows c.args.place p c.index-nodes-number.result c.in-Some.is at (ap is_passed (sym c.kind.ensures) ∙ sym c.is_passed.ensures ∙ c.if-is_passed.false)

pub returns-then-is_passed : goal.returns-then-is_passed
returns-then-is_passed c =
    let p = c.in-Some.number in
    let rows = c.args.nodes.now in
    let known : p < length c.args.above.now = c.requires.behind p c.in-Some.is in
    let within : p < length rows = omega (arith, known, c.requires.within) in
    let at : slice_get rows p ≡ Some c.index-nodes-number.result = slice_get_read rows _ p c.index-nodes-number.result refl within c.index-nodes-number.is in
    closest_further rows c.args.place _ p c.index-nodes-number.result c.in-Some.is at (ap is_passed (sym c.kind.ensures) ∙ sym c.is_passed.ensures ∙ c.if-is_passed.true)
    (c.requires.above p c.index-nodes-number.result known at)
