use Rattle.yv_expand_laws.proofs.RefusalsJoined.{refusals_are_one}
use Rattle.yv_expand_laws.proofs.laws.refusals_are_one.Goals as goal

pub returns : goal.returns
returns c = λ files.
    refusals_are_one files c.files_expand_to_one_tree.ensures c.files_expand_to_a_tree.ensures (c.items_of_files_show_nodes.ensures files)
    (c.depths_are_one.ensures files) (c.refines_are_one.ensures files) (c.targets_are_one.ensures files) (c.targets_of_uses_are_one.ensures files)
    (c.misplacements_are_one.ensures files) (c.impositions_are_one.ensures files)
