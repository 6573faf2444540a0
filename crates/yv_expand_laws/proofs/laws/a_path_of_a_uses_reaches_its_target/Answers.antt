use Rattle.yv_expand_laws.proofs.PathTargets.{paths_reach}
use Rattle.yv_expand_laws.proofs.laws.a_path_of_a_uses_reaches_its_target.Goals as goal

pub returns : goal.returns
returns c = λ labels its are. paths_reach labels its are
