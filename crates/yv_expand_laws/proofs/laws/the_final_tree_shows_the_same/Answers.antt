use Rattle.yv_expand_laws.proofs.Trees.{tree_shows}
use Rattle.yv_expand_laws.proofs.laws.the_final_tree_shows_the_same.Goals as goal

pub returns : goal.returns
returns c = tree_shows
