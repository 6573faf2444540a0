use Rattle.std.proofs.Common.{sym, ◌∙◌}
use Rattle.yv_text_path.proofs.BarePaths.{path_bare, nothing_left_out}
use Rattle.yv_text_path.proofs.laws.a_path_without_brackets_is_bare.Goals as goal

pub returns : goal.returns
returns c text bare names p h = sym (path_bare p) ∙ nothing_left_out text h
