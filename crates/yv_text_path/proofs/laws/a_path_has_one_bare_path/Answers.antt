use Rattle.std.proofs.Common.{sym, ◌∙◌}
use Rattle.yv_text_path.proofs.BarePaths.{path_bare}
use Rattle.yv_text_path.proofs.PathsRead.{path_names}
use Rattle.yv_text_path.proofs.laws.a_path_has_one_bare_path.Goals as goal

pub returns-clause-bare : goal.returns-clause-bare
returns-clause-bare c text bare other names others p q = sym (path_bare p) ∙ path_bare q

pub returns-clause-names : goal.returns-clause-names
returns-clause-names c text bare other names others p q = sym (path_names p) ∙ path_names q
