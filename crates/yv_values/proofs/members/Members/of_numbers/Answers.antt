use Rattle.yv_values.specs.Identities.{NumberedId, is_between}
use Rattle.yv_values.proofs.NumberedIdentities.{part_rises}
use Rattle.yv_values.proofs.members.Members.of_numbers.Goals as goal

pub returns-clause-rises : goal.returns-clause-rises
returns-clause-rises c = part_rises (λ (e : NumberedId). is_between c.args.low c.args.high e.number) _ c.rise.ensures
