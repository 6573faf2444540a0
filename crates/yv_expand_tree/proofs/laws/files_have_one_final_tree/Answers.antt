use Rattle.yv_expand_tree.proofs.Finals.{final_one}
use Rattle.yv_expand_tree.proofs.laws.files_have_one_final_tree.Goals as goal

pub returns : goal.returns
returns c = final_one c.a_whole_is_one.ensures c.augments_come_to_one.ensures c.groups_have_one_tree.ensures
