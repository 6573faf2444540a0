use Rattle.yv_expand_definition.proofs.Meaning.{refers_to_one}
use Rattle.yv_expand_laws.proofs.FinalTree.{final_tree_shows}
use Rattle.yv_expand_laws.proofs.laws.the_final_tree_is_what_files_expand_to.Goals as goal

pub returns : goal.returns
returns c = λ files. final_tree_shows files (refers_to_one c.a_name_means_one_thing.ensures files) c.items_stand_once.ensures
