use Rattle.yv_expand_paths.proofs.StepNumbers.{step_is}
use Rattle.yv_expand_paths.proofs.laws.a_step_has_its_nodes_number.Goals as goal

pub returns : goal.returns
returns c = λ files rows file own module_file text name number few named. step_is files rows file own module_file few text name number named
