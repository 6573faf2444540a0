use Rattle.yv_expand_uses.specs.InnerPlan.{whole_in}
use Rattle.yv_expand_augments.specs.InnerSchedule.{IsGathering}
use Rattle.yv_expand_augments.proofs.schedule.schedule_of_uses.Given as goal

abbrev pub invariant-loop-augment : goal.invariant-loop-augment
invariant-loop-augment l = IsGathering (whole_in l.plan) l.statement l.module_file l.augment-index l.gathering
