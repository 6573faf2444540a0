use Rattle.std.proofs.Common.{sym, ◌∙◌}
use Rattle.std.proofs.lemmas.Bool.{false≢true}
use Rattle.yv_text_statement.proofs.Least.{lesser_first, lesser_second}
use Rattle.yv_text_statement.proofs.refusal.lesser.Goals as goal

pub returns-then-is_up_to : goal.returns-then-is_up_to
returns-then-is_up_to c = lesser_first _ _ _ c.in-Some-Some.s c.in-Some-Some.is-0 c.in-Some-Some.is-1 (c.is_up_to.ensures.0 c.if-is_up_to.true)

pub returns-else-is_up_to : goal.returns-else-is_up_to
returns-else-is_up_to c = lesser_second _ _ c.in-Some-Some.r _ c.in-Some-Some.is-0 c.in-Some-Some.is-1 (λ h. false≢true (sym c.if-is_up_to.false ∙ c.is_up_to.ensures.1 h))
