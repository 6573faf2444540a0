use Rattle.std.proofs.Common.{sym, ◌∙◌}
use Rattle.yv_expand_uses.proofs.plan.Plan.number_of_targets.Goals as goal

pub returns-in-Some-clause-number : goal.returns-in-Some-clause-number
returns-in-Some-clause-number c = c.requires.refine_targets.known c.args.statement c.args.module_file c.in-Some.number (sym c.find.ensures ∙ c.in-Some.is)
