use Rattle.yv_expand_definition.proofs.Meaning.{refers_to_one}
use Rattle.yv_expand_definition.proofs.ExpansionUniqueness.{expand_one}
use Rattle.yv_expand_definition.proofs.laws.files_expand_to_one_tree.Goals as goal

pub returns : goal.returns
returns c = λ files marks order m n a b. expand_one files (refers_to_one c.a_name_means_one_thing.ensures files) marks order m n a b
