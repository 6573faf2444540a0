use Rattle.std.proofs.Common.{◌≡◌, ◌<◌, true, length, refl, sym, ap, ◌∙◌, arith, Some}
use Rattle.std.proofs.lemmas.Option.{slice_get_read}
use Rattle.std.specs.List.{slice_get}
use Rattle.yv_node_content.specs.Kinds.{is_passed}
use Rattle.yv_node_leafrefs.specs.Links.{is_inner}
use Rattle.yv_node_leafrefs.proofs.LinkPlacing.{at_passed, at_inner, at_other, passed_kind, inner_kind, other_kind}
use Rattle.yv_node_leafrefs.proofs.inner_nodes.closest.Goals as goal

pub returns-in-Choice : goal.returns-in-Choice
returns-in-Choice c p =
    let rows = c.args.nodes.now in
    let q = c.in_ok-number.number in
    let e : c.args.place ≡ Some q = c.in_ok-number.was in
    let known : q < length c.args.above.now = c.requires.behind q e in
    let r = c.index-nodes-number.result in
    let at : slice_get rows q ≡ Some r = slice_get_read rows _ q r refl (omega (arith, known, c.requires.within)) c.index-nodes-number.is in
    let passed : is_passed r.label.defined.kind ≡ true = ap is_passed (sym c.kind.ensures) ∙ passed_kind c.kind.result c.in-Choice.is in
    let above = c.requires.above q p known in
    at_passed rows c.args.place q r e at c.above_at.result p passed
    (λ h. above.0 (sym c.above_at.ensures ∙ h), λ up. c.above_at.ensures ∙ above.1 up)

pub returns-in-Container : goal.returns-in-Container
returns-in-Container c p =
    let rows = c.args.nodes.now in
    let q = c.in_ok-number.number in
    let e : c.args.place ≡ Some q = c.in_ok-number.was in
    let r = c.index-nodes-number.result in
    let at : slice_get rows q ≡ Some r =
    slice_get_read rows _ q r refl (omega (arith, c.requires.behind q e, c.requires.within)) c.index-nodes-number.is in
    let kinds = inner_kind c.kind.result c.in-Container.is in
    at_inner rows c.args.place q r e at p (ap is_passed (sym c.kind.ensures) ∙ kinds.0) (ap is_inner (sym c.kind.ensures) ∙ kinds.1)

pub returns-in_default : goal.returns-in_default
returns-in_default c p =
    let rows = c.args.nodes.now in
    let q = c.in_ok-number.number in
    let e : c.args.place ≡ Some q = c.in_ok-number.was in
    let r = c.index-nodes-number.result in
    let at : slice_get rows q ≡ Some r =
    slice_get_read rows _ q r refl (omega (arith, c.requires.behind q e, c.requires.within)) c.index-nodes-number.is in
    let kinds = other_kind c.kind.result c.in_default.not-Container c.in_default.not-List c.in_default.not-Choice c.in_default.not-Case in
    at_other rows c.args.place q r e at p (ap is_passed (sym c.kind.ensures) ∙ kinds.0) (ap is_inner (sym c.kind.ensures) ∙ kinds.1)
