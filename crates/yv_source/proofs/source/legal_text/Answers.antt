use Rattle.std.proofs.Common.{arith, subst, Option, ℕ}
use Rattle.std.specs.Prelude.{IfSome}
use Rattle.yv_source.specs.Legal.{IsIllegalAt}
use Rattle.yv_source.proofs.Legality.{refuses_character}
use Rattle.yv_source.proofs.source.legal_text.Goals as goal

pub returns-in-Some-clause-refuses : goal.returns-in-Some-clause-refuses
returns-in-Some-clause-refuses c =
    let P : Option ℕ → Type 0 = λ o. IfSome o (IsIllegalAt c.in-Ok.text.now) in
    refuses_character c.args.bytes.now c.in-Ok.text.now c.in-Some.at c.refusal-in-Some.result
    (omega arith) c.in-Ok.ensures.cases.0 c.in-Ok.ensures.cases.1 (subst P c.in-Some.is c.first_illegal.ensures.finds) c.refusal-in-Some.ensures
