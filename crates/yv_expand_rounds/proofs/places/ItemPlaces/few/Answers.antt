use Rattle.std.proofs.Common.{◌≡◌, ◌+◌, ℕ, sym, subst}
use Rattle.std.proofs.lemmas.Option.{IfSome_then}
use Rattle.yv_expand_rounds.specs.declared.end.End.{End}
use Rattle.yv_expand_rounds.specs.Groups.{members_of}
use Rattle.yv_expand_rounds.specs.InnerArrivals.{AreMet}
use Rattle.yv_expand_rounds.specs.InnerGroups.{HaveBefore}
use Rattle.yv_expand_rounds.proofs.Meeting.{met_from_node, met_from_start}
use Rattle.yv_expand_rounds.proofs.places.ItemPlaces.few.Goals as goal

pub returns-in-Start : goal.returns-in-Start
returns-in-Start c = λ labels groups are.
    IfSome_then c.few_of.result (c.few_of.ensures labels groups are)
    (λ few have. subst (λ (e : End). AreMet labels groups c.args.limit e few.now) (sym c.in-Start.is) (met_from_start labels groups c.args.limit c.in-Start.group few.now have))

pub returns-in-Some : goal.returns-in-Some
returns-in-Some c = λ labels groups are.
    let same : c.in-Some.group ≡ c.in-Node.item + 1 = c.in-Some.ensures.1 in
    IfSome_then c.few_of-in-Some.result (c.few_of-in-Some.ensures labels groups are)
    (λ few have.
    let have : HaveBefore (members_of groups (c.in-Node.item + 1)) c.args.limit few.now =
    subst (λ (g : ℕ). HaveBefore (members_of groups g) c.args.limit few.now) same have in
    subst (λ (e : End). AreMet labels groups c.args.limit e few.now) (sym c.in-Node.is) (met_from_node labels groups c.args.limit c.in-Node.item few.now have))
