use Rattle.std.proofs.Common.{◌∙◌, sym, arith}
use Rattle.yv_base_numbers.proofs.Texts.{next_dots, last_dots}
use Rattle.yv_base_numbers.proofs.bound.dots_at.Goals as goal

pub loop-at-preserved : goal.loop-at-preserved
loop-at-preserved c = next_dots c.args.text.now c.loop-at.at c.loop-at.auto.at (omega arith) (sym c.if-are_dots.ensures) c.loop-at.invariant

pub returns-clause-finds : goal.returns-clause-finds
returns-clause-finds c = sym (c.loop-at.invariant ∙ last_dots c.args.text.now _ (omega arith))
