use Rattle.std.proofs.Common.{◌≡◌, ◌-◌, ◌≤◌, ℕ, List, Some, drop, length, take, ap, sym, ◌∙◌, subst, arith}
use Rattle.std.specs.List.{slice_get}
use Rattle.std.proofs.lemmas.List.{length-drop, take_all}
use Rattle.yv_expand_rounds.proofs.DescendingMembers.{behind_place}
use Rattle.yv_expand_rounds.proofs.group.Group.few.Goals as goal

pub returns : goal.returns
returns c = λ labels members is place item at before.
    let front : ℕ = c.in_ok-front.front in
    let kept : List ℕ = c.deref.result.now in
    let here : slice_get kept place ≡ Some item = ap (λ ms. slice_get ms place) (c.deref.ensures.value ∙ is.members_are) ∙ at in
    let found = behind_place front kept place item (c.in_ok-front.ensures.behind labels members is place item at before) here in
    let all : take (length kept - front) (drop front kept) ≡ drop front kept = take_all (length kept - front) (drop front kept) (subst (λ n. n ≤ length kept - front) (sym (length-drop front kept)) (omega arith)) in
    (found.0, ap (λ ms. slice_get ms found.0) all ∙ found.1)
