use Rattle.yv_tree.proofs.WholeDrawings.{plain_lines}
use Rattle.yv_tree.proofs.laws.plain_shows_all.Goals as goal

pub returns : goal.returns
returns c = plain_lines
