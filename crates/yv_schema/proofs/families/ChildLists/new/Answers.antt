use Rattle.std.proofs.Common.{◌≡◌, ℕ, [], replicate, ap, ◌∙◌, arith}
use Rattle.yv_schema.proofs.ChildPlacement.{empty_lists}
use Rattle.yv_schema.proofs.families.ChildLists.new.Goals as goal

pub returns-clause-below : goal.returns-clause-below
returns-clause-below c =
    let all : c.loop.counter ≡ c.args.count = omega (arith, c.loop-test.false, c.loop.auto.counter-end) in
    empty_lists c.args.count _ (c.loop.invariant ∙ ap (λ (n : ℕ). replicate n []) all)
