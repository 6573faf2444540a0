use Rattle.std.proofs.Common.{◌+◌, refl, sym, ◌∙◌}
use Rattle.yv_expand_uses.specs.InnerPlan.{whole_in}
use Rattle.yv_expand_augments.proofs.schedule.gather.Goals as goal

pub returns-then-is_giving : goal.returns-then-is_giving
returns-then-is_giving c = λ count is at.
    c.close.ensures.gathers (whole_in c.args.plan.now) c.args.statement c.args.module_file count (count + 1) is
    (refl, record { at = at; gives = sym c.is_giving.ensures ∙ c.if-is_giving.true; path = c.in_ok-path.ensures })

pub returns-else-is_giving : goal.returns-else-is_giving
returns-else-is_giving c = λ count is at.
    c.note.ensures (whole_in c.args.plan.now) c.args.statement c.args.module_file count is
    (record { at = at; quiet = sym c.is_giving.ensures ∙ c.if-is_giving.false; path = c.in_ok-path.ensures; refused = c.refusal_of.ensures })
