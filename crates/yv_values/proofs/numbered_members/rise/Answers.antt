use Rattle.std.proofs.Common.{◌≡◌, ◌+◌, ◌-◌, ◌<◌, ◌∙◌, ℕ, List, arith, ap, get_or, length}
use Rattle.std.specs.List.{slice_get}
use Rattle.std.proofs.lemmas.Option.{slice_get-get_or}
use Rattle.yv_values.specs.declared.numbered_members.NumberedMember.{NumberedMember}
use Rattle.yv_values.specs.Identities.{id_cmp}
use Rattle.yv_values.specs.InnerMembers.{entry_id}
use Rattle.yv_values.proofs.IdentitySearch.{ids_total}
use Rattle.yv_values.proofs.RisingLists.{adjacent_rises}
use Rattle.yv_values.proofs.numbered_members.rise.Goals as goal

pub returns-clause-rises : goal.returns-clause-rises
returns-clause-rises c = λ _. adjacent_rises entry_id id_cmp ids_total c.args.members.now (λ k d b. c.loop-place.invariant k d (omega (arith, b, c.loop-place.auto.place-end, c.loop-place-test.false)))

pub returns-then-not-stands_first-clause-stops : goal.returns-then-not-stands_first-clause-stops
returns-then-not-stands_first-clause-stops c = λ _.
    let members : List NumberedMember = c.args.members.now in
    let place : ℕ = c.loop-place.place in
    let first : NumberedMember = c.index-members-place.result in
    let last : NumberedMember = c.index-members-place-in-loop-place.result in
    let inside : place < length members = omega (arith, c.loop-place.auto.place-end, c.loop-place-test.true) in
    let up : place - 1 + 1 ≡ place = omega (arith, c.loop-place.auto.place) in
    record {
      place = place - 1;
      one = get_or members (place - 1) first;
      next = get_or members place last;
      here = slice_get-get_or members (place - 1) first (omega (arith, inside));
      there = ap (λ (n : ℕ). slice_get members n) up ∙ slice_get-get_or members place last inside;
      stops = c.stands_first.ensures.not c.if-not-stands_first.true;
    }
