use Rattle.yv_expand_laws.proofs.FileExpansion.{files_expand}
use Rattle.yv_expand_laws.proofs.laws.files_expand_to_a_tree.Goals as goal

pub returns : goal.returns
returns c = λ files marks order own items refer marked whole. files_expand files refer marks order own items marked whole
