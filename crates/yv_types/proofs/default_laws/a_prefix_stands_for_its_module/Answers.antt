use Rattle.yv_types.proofs.Binding.{stands_for}
use Rattle.yv_types.proofs.default_laws.a_prefix_stands_for_its_module.Goals as goal

pub returns : goal.returns
returns c = λ files file m prefix f e at. stands_for files file m prefix f e at
