use Rattle.yv_tree.specs.Diagram.{module_in}
use Rattle.yv_tree.proofs.WholeDrawings.{plain_of}
use Rattle.yv_tree.proofs.laws.one_module_is_plain.Goals as goal

pub returns : goal.returns
returns c = λ s name files. plain_of s (module_in s.modules name)
