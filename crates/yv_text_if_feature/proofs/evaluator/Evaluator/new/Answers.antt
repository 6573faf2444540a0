use Rattle.std.proofs.Common.{refl}
use Rattle.yv_text_if_feature.specs.Reads.{HasRead}
use Rattle.yv_text_if_feature.proofs.Passes.{told}
use Rattle.yv_text_if_feature.proofs.evaluator.Evaluator.new.Goals as goal

pub returns : goal.returns
unfolding HasRead
returns c = λ names rest. told names rest _ (rw (c.empty.ensures, c.new.ensures) refl)
