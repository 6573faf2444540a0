use Rattle.yv_expand_laws.proofs.RefineChanges.{refine_changes, refine_misses}
use Rattle.yv_expand_laws.proofs.laws.a_refine_means_the_node_of_its_path.Goals as goal

pub returns-clause-changes : goal.returns-clause-changes
returns-clause-changes c = refine_changes

pub returns-clause-misses : goal.returns-clause-misses
returns-clause-misses c = refine_misses
