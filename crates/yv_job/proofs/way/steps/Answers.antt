use Rattle.std.proofs.Common.{sym, subst, take, ◌+◌, Bor, List, [], ℕ, rules, add-one}
use Rattle.std.specs.List.{AllZip}
use Rattle.yv_job.specs.Names.{IsStep}
use Rattle.yv_tree_drawing.specs.Steps.{Step}
use Rattle.yv_job.proofs.NameLemmas.{zip_at, zip_more}
use Rattle.yv_job.proofs.way.steps.Goals as goal

pub returns-in_default : goal.returns-in_default
returns-in_default c xs z =
    let now = λ (p : Bor (List ℕ)). p.now in
    let r = zip_at now IsStep c.args.parts.now xs c.loop-part.part-index (record { ref_ptr = (0, 0); now = [] }) (search rules) z in
    (rw c.in_default.is at c.in_ok-step.ensures) r.0 r.1

pub loop-part-preserved : goal.loop-part-preserved
loop-part-preserved c =
    let now = λ (p : Bor (List ℕ)). p.now in
    let R = λ (p : Bor (List ℕ)) (x : Step). IsStep p.now x in
    let one = zip_more now IsStep c.args.parts.now _ c.loop-part.part-index (record { ref_ptr = (0, 0); now = [] }) c.in-Some.step (search rules) c.loop-part.invariant (rw c.in-Some.is at c.in_ok-step.ensures) in
    subst (AllZip R (take (c.loop-part.part-index + 1) c.args.parts.now)) (sym c.in_ok-push.ensures.items) (rw add-one one)
