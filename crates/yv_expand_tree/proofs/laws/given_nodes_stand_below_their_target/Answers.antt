use Rattle.yv_expand_tree.proofs.Targets.{nodes_have_targets}
use Rattle.yv_expand_tree.proofs.laws.given_nodes_stand_below_their_target.Goals as goal

pub returns : goal.returns
returns c = λ choice files truth f nodes place giver x is are at gives.
    nodes_have_targets choice files truth f is c.what_is_given_stands_below_its_target.ensures nodes place giver x are at gives
