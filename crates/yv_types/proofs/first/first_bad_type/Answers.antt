use Rattle.yv_link.specs.LinkedFiles.{truth_in}
use Rattle.yv_types.proofs.first.first_bad_type.Goals as goal

pub returns-in-Ok-clause-least : goal.returns-in-Ok-clause-least
returns-in-Ok-clause-least c = λ files choice linked given. c.refusal.ensures files (truth_in c.args.linked.now) (c.in-Ok.ensures.makes files choice linked given)
