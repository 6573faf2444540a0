use Rattle.std.proofs.Common.{◌≡◌, ◌-◌, ℕ, Some, ◌∙◌, ap, sym, refl, arith}
use Rattle.std.specs.List.{slice_get}
use Rattle.std.proofs.lemmas.Option.{slice_get_read}
use Rattle.yv_expand_rounds.proofs.DescendingMembers.{front_behind}
use Rattle.yv_expand_rounds.proofs.group.Group.front.Goals as goal

pub returns-else-index-limit-clause-behind : goal.returns-else-index-limit-clause-behind
returns-else-index-limit-clause-behind c = λ labels members is descending.
    let front : ℕ = c.loop-front.front in
    let kept = c.args.self.now.members.items in
    let inside = c.loop-front.invariant in
    let some = c.loop-front-test.true in
    let at : slice_get kept (front - 1) ≡ Some c.index.result.now =
    slice_get_read kept _ (front - 1) c.index.result.now refl (omega (arith, inside, some)) c.index.ensures in
    front_behind members c.args.limit front c.index.result.now (is.descend descending) (ap (λ ms. slice_get ms (front - 1)) (sym is.members_are) ∙ at)
    c.if-index-limit.false some
