use Rattle.yv_expand_definition.proofs.Meaning.{refers_to_one}
use Rattle.yv_expand_laws.proofs.UsesTargetsJoined.{uses_targets_are_one}
use Rattle.yv_expand_laws.proofs.laws.targets_of_uses_are_one.Goals as goal

pub returns : goal.returns
returns c = λ files. uses_targets_are_one files (refers_to_one c.a_name_means_one_thing.ensures files) c.items_of_the_final_tree_were_placed.ensures
