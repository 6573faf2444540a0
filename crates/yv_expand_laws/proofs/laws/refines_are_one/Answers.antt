use Rattle.yv_expand_definition.proofs.Meaning.{refers_to_one}
use Rattle.yv_expand_laws.proofs.RefinesJoined.{refines_are_one}
use Rattle.yv_expand_laws.proofs.laws.refines_are_one.Goals as goal

pub returns : goal.returns
returns c = λ files. refines_are_one files (refers_to_one c.a_name_means_one_thing.ensures files) c.items_of_the_final_tree_were_placed.ensures
