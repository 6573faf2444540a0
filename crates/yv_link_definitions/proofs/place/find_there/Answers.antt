use Rattle.std.proofs.Common.{sym, ◌∙◌, arith}
use Rattle.yv_link_definitions.proofs.PlaceSearch.{ended, found, nothing, past}
use Rattle.yv_link_definitions.proofs.place.find_there.Goals as goal

pub returns-in-Some : goal.returns-in-Some
returns-in-Some c =
    sym (found c.args.places.now c.args.file c.args.offset c.count_before-count.result c.count_before-count.ensures.below c.in-Some.place (sym c.place_at.ensures ∙ c.in-Some.is) (sym c.is_there.ensures ∙ c.if-is_there.true))

pub returns-in_default : goal.returns-in_default
returns-in_default c =
    let here = sym c.place_at.ensures ∙ c.in-Some.is in
    sym (nothing c.args.places.now c.args.file c.args.offset c.count_before-count.result c.count_before-count.ensures.below
    (past c.args.places.now c.requires c.args.file c.args.offset c.count_before-count.result c.in-Some.place here (c.count_before-count.ensures.above c.count_before-count.result c.in-Some.place (omega arith) here) (sym c.is_there.ensures ∙ c.if-is_there.false)))

pub returns-in_default-2 : goal.returns-in_default-2
returns-in_default-2 c =
    sym (nothing c.args.places.now c.args.file c.args.offset c.count_before-count.result c.count_before-count.ensures.below
    (λ k q l at. absurd (ended c.args.places.now c.count_before-count.result (sym c.place_at.ensures ∙ c.in_default.is) k q l at)))
