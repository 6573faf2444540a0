use Rattle.std.proofs.Common.{map, sym, ap, ◌∙◌}
use Rattle.yv_node_paths.specs.Steps.{step_of}
use Rattle.yv_node_content.specs.Definition.{paths_in}
use Rattle.yv_node_statements.proofs.Listing.{no_words}
use Rattle.yv_node_statements.proofs.keys.BlockPaths.none.Goals as goal

pub returns : goal.returns
returns c = λ files file. record { keys = c.in_ok-keys.ensures ∙ sym (ap (map (step_of files file)) no_words); uniques = ap (map paths_in) c.in_ok-uniques.ensures; path = c.in_ok-path.ensures }
