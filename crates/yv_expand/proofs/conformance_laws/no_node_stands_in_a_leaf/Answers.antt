use Rattle.yv_expand.proofs.BlockLemmas.{nothing_in_a_leaf}
use Rattle.yv_expand.proofs.conformance_laws.no_node_stands_in_a_leaf.Goals as goal

pub returns : goal.returns
returns c = λ files k j q r fine row is inner scope.
    nothing_in_a_leaf files c.roots_come_first.ensures.roots c.statements_have_their_rows.ensures c.statements_stand_in_their_blocks.ensures c.modules_are_files.ensures.module_files fine k j q r row is inner scope
