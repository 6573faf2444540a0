use Rattle.std.proofs.Common.{◌≡◌, Some, subst}
use Rattle.yv_text_statement.specs.Order.{IsLeast}
use Rattle.yv_text_statement.specs.declared.refusal.Refusal.{Refusal}
use Rattle.yv_link.specs.LinkedFiles.{truth_in}
use Rattle.yv_types.specs.Refusals.{BadTypes}
use Rattle.yv_types.proofs.build.types.Goals as goal

pub returns-in-Some-clause-refusal : goal.returns-in-Some-clause-refusal
returns-in-Some-clause-refusal c r e files choice linked given =
    let same : c.in-Some.refusal ≡ r = (let h = e in cc) in
    subst (λ (x : Refusal). IsLeast (BadTypes files (truth_in c.args.linked.now)) (Some x)) same
    (c.in-Some.ensures files (truth_in c.args.linked.now) (c.in-Ok.ensures.makes files choice linked given))

pub returns-clause-clear : goal.returns-clause-clear
returns-clause-clear c = λ files choice linked given.
    c.in_default.ensures files (truth_in c.args.linked.now) (c.in-Ok.ensures.makes files choice linked given)
