use Rattle.std.proofs.Common.{ℕ, length, sym, subst, ◌∙◌}
use Rattle.std.specs.BTreeMap.{get}
use Rattle.std.specs.Ordering.{nat_cmp}
use Rattle.std.specs.Prelude.{Option}
use Rattle.std.proofs.lemmas.Map.Lookups.{exact_unsigned}
use Rattle.yv_expand_uses.specs.InnerPlan.{whole_in}
use Rattle.yv_expand_augments.specs.InnerSchedule.{AreStretches, IsSchedule, stretches_of}
use Rattle.yv_expand_uses.specs.Spots.{Whole}
use Rattle.yv_expand_uses.specs.AugmentOrder.{augments_in}
use Rattle.yv_expand_augments.specs.declared.schedule.Schedule.{Schedule}
use Rattle.yv_expand_uses.proofs.TargetLists.{known_more}
use Rattle.yv_expand_augments.proofs.AugmentSchedule.{kept_for}
use Rattle.yv_expand_augments.proofs.schedule.prepare.Goals as goal

pub returns-then-is_ready-clause-ready : goal.returns-then-is_ready-clause-ready
returns-then-is_ready-clause-ready c =
    kept_for (whole_in c.args.plan.now) c.args.statement c.args.module_file (get nat_cmp c.args.schedules.now.known c.args.statement)
    (sym c.is_ready.ensures ∙ c.if-is_ready.true) (c.requires.schedules.known c.args.statement)

pub returns-clause-schedules : goal.returns-clause-schedules
returns-clause-schedules c =
    let w : Whole = whole_in c.args.plan.now in
    record {
      known = known_more nat_cmp exact_unsigned (λ (statement : ℕ) (s : Schedule). IsSchedule w statement s) c.args.schedules.now.known c.insert.new.self
          c.args.statement c.in_ok-schedule.schedule c.in_ok-insert.ensures.updates c.requires.schedules.known c.in_ok-schedule.ensures.schedule;
    }

pub returns-clause-ready : goal.returns-clause-ready
returns-clause-ready c =
    let w : Whole = whole_in c.args.plan.now in
    let count : ℕ = length (augments_in w.rows c.args.statement) in
    let s : Schedule = c.in_ok-schedule.schedule in
    subst (λ (o : Option Schedule). AreStretches w c.args.statement c.args.module_file 0 count (stretches_of o)) (sym c.in_ok-insert.ensures.updates.1)
    (subst (λ (n : ℕ). AreStretches w c.args.statement n 0 count s.stretches.items) c.in_ok-schedule.ensures.module_file c.in_ok-schedule.ensures.schedule)
