use Rattle.yv_expand_tree.proofs.Phases.{expansion_phase}
use Rattle.yv_expand_tree.proofs.laws.refusals_of_expansions_have_phases.Goals as goal

pub returns : goal.returns
returns c = expansion_phase
