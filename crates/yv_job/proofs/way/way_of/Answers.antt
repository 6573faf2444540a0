use Rattle.std.proofs.Common.{◌∙◌, ap, map, Bor, List, ℕ, rules}
use Rattle.yv_job.proofs.WayLemmas.{way_taken, no_steps, no_start}
use Rattle.yv_job.proofs.way.way_of.Goals as goal

pub returns-in_default-2 : goal.returns-in_default-2
returns-in_default-2 c =
    let now = λ (p : Bor (List ℕ)). p.now in
    no_steps now c.deref.result.now c.args.text.now c.in-Some.rest.now c.in-Some.ensures (ap (map now) c.deref.ensures.value ∙ c.in_ok-parts.ensures) (rw c.in_default-2.is at c.in_ok-steps.ensures)

pub returns-then-starts_in_module : goal.returns-then-starts_in_module
returns-then-starts_in_module c =
    let now = λ (p : Bor (List ℕ)). p.now in
    way_taken now c.deref.result.now c.args.text.now c.in-Some.rest.now c.in-Some-2.steps.items c.in-Some.ensures (ap (map now) c.deref.ensures.value ∙ c.in_ok-parts.ensures)
    (rw c.in-Some-2.is at c.in_ok-steps.ensures) (search rules)

pub returns : goal.returns
returns c =
    let now = λ (p : Bor (List ℕ)). p.now in
    no_start now c.deref.result.now c.args.text.now c.in-Some.rest.now c.in-Some-2.steps.items c.in-Some.ensures (ap (map now) c.deref.ensures.value ∙ c.in_ok-parts.ensures)
    (rw c.in-Some-2.is at c.in_ok-steps.ensures) (search rules)
