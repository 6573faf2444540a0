use Rattle.std.proofs.Common.{◌≡◌, Some, sym, ap, ◌∙◌, subst, Option}
use Rattle.yv_text_statement.specs.Order.{IsLesser}
use Rattle.yv_text_statement.specs.declared.refusal.Stop.{Stop}
use Rattle.yv_schema.proofs.BuildRefusals.{fault_in, lesser_some}
use Rattle.yv_schema.proofs.build.first_stop.Goals as goal

pub returns-in-Fault-clause-refusal : goal.returns-in-Fault-clause-refusal
returns-in-Fault-clause-refusal c = λ r e.
    let d = c.in-Fault.duplicate in
    let same : c.unwrap_or.result ≡ r = ap (λ (s : Stop). fault_in s r) e in
    let found : c.lesser.result ≡ Some r = lesser_some d c.args.wrong c.lesser.result c.lesser.ensures ∙ ap Some (sym c.unwrap_or.ensures ∙ same) in
    (d, c.in-Fault.is, subst (λ (o : Option _). IsLesser (Some d) c.args.wrong o) found c.lesser.ensures)
