use Rattle.std.proofs.Common.{suc, arith}
use Rattle.yv_data_leafrefs.proofs.answers.Answers.further_out.Goals as goal

pub loop-preserved : goal.loop-preserved
loop-preserved c = λ left e. rw c.parent_of-outer.ensures (c.loop.invariant (suc left) (omega (arith, e)))

pub returns : goal.returns
returns c = c.loop.invariant 0 (omega (arith, c.loop-test.false, c.loop.auto.counter-end))
