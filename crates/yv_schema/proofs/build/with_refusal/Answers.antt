use Rattle.std.proofs.Common.{◌≡◌, Err, Some, ap, ◌∙◌}
use Rattle.yv_text_statement.specs.declared.refusal.Stop.TheVariants.{Fault, NoMemory}
use Rattle.yv_schema.specs.InnerBuild.{of_both, of_tree}
use Rattle.yv_schema.proofs.BuildRefusals.{fault_in, stop_in}
use Rattle.yv_schema.proofs.build.with_refusal.Goals as goal

pub returns-in-Some-clause-refusal : goal.returns-in-Some-clause-refusal
returns-in-Some-clause-refusal c = λ r e.
    let same : c.in-Some.wrong ≡ r = ap (λ o. fault_in (stop_in o NoMemory) r) e in
    of_tree c.in-Ok.schema c.in-Ok.is (c.in-Some.is ∙ ap Some same)

pub returns-in-Err-clause-refusal : goal.returns-in-Err-clause-refusal
returns-in-Err-clause-refusal c = λ r e.
    let same : c.first_stop.result ≡ Fault r = ap (λ o. stop_in o NoMemory) e in
    let told = c.first_stop.ensures.refusal r same in
    of_both told.0 (c.in-Err.is ∙ ap Err told.1) told.2
