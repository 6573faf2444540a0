use Rattle.yv_node_paths.proofs.PathTexts.{begins}
use Rattle.yv_node_paths.proofs.laws.paths_of_leafrefs_begin.Goals as goal

pub returns : goal.returns
returns c = λ text bare names path. begins text (bare, names, path)
