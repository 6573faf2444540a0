use Rattle.std.proofs.Common.{◌∙◌}
use Rattle.yv_text_path.proofs.BarePaths.{path_bare}
use Rattle.yv_text_path.proofs.bare.bare_path.Goals as goal

pub returns : goal.returns
returns c bare names p = c.in_ok-path.ensures ∙ path_bare p
