use Rattle.yv_expand_tree.proofs.ModuleFiles.{module_files_are}
use Rattle.yv_expand_tree.proofs.laws.module_files_are_of_modules.Goals as goal

pub returns : goal.returns
returns c = λ choice files f i s have is at. module_files_are choice files have f is i s at
