use Rattle.yv_node_paths.proofs.PathStarts.{begins_in_files}
use Rattle.yv_node_paths.proofs.laws.paths_of_files_begin.Goals as goal

pub returns : goal.returns
returns c = λ files k j t child text fine at other inner is says none.
    begins_in_files files k j t child text fine at other inner is says none
