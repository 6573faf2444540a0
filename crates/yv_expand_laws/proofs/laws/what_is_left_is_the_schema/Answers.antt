use Rattle.yv_expand_definition.proofs.Meaning.{refers_to_one}
use Rattle.yv_expand_laws.proofs.LeftNodes.{left_is_shown}
use Rattle.yv_expand_laws.proofs.laws.what_is_left_is_the_schema.Goals as goal

pub returns : goal.returns
returns c = λ files. left_is_shown files (refers_to_one c.a_name_means_one_thing.ensures files) c.items_stand_once.ensures c.an_expression_has_one_truth.ensures
