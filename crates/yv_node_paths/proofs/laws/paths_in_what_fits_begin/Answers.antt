use Rattle.yv_node_paths.proofs.PathTexts.{begins_within}
use Rattle.yv_node_paths.proofs.laws.paths_in_what_fits_begin.Goals as goal

pub returns : goal.returns
returns c = λ x parent t child k text fits other at is says.
    begins_within x parent t child k text fits other at is says
