use Rattle.yv_expand_definition.proofs.Meaning.{refers_to_one}
use Rattle.yv_expand_laws.proofs.Targets.{targets_are_one}
use Rattle.yv_expand_laws.proofs.laws.targets_are_one.Goals as goal

pub returns : goal.returns
returns c = λ files. targets_are_one files (refers_to_one c.a_name_means_one_thing.ensures files)
