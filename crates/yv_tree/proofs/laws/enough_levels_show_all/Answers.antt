use Rattle.yv_tree.proofs.EnoughLevels.{enough_lines}
use Rattle.yv_tree.proofs.laws.enough_levels_show_all.Goals as goal

pub returns : goal.returns
returns c = enough_lines
