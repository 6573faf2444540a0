use Rattle.yv_expand_definition.proofs.GivenNodeUniqueness.{gives_one}
use Rattle.yv_expand_definition.proofs.Meaning.{refers_to_one}
use Rattle.yv_expand_definition.proofs.laws.statements_give_one_tree.Goals as goal

pub returns : goal.returns
returns c = λ files module_file under numbers m n a b. gives_one files module_file (refers_to_one c.a_name_means_one_thing.ensures files) a b
