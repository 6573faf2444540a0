use Rattle.yv_lint.proofs.SameFindings.{all_alone}
use Rattle.yv_lint.proofs.laws.asked_alone.Goals as goal

pub returns : goal.returns
returns c = all_alone
