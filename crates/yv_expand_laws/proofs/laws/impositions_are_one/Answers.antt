use Rattle.yv_expand_definition.proofs.Meaning.{refers_to_one}
use Rattle.yv_expand_laws.proofs.Impositions.{impositions_are_one}
use Rattle.yv_expand_laws.proofs.laws.impositions_are_one.Goals as goal

pub returns : goal.returns
returns c = λ files. impositions_are_one files (refers_to_one c.a_name_means_one_thing.ensures files) c.items_stand_once.ensures c.a_tree_has_no_item_twice.ensures.within
