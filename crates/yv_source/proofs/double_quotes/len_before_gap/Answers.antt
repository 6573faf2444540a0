use Rattle.std.proofs.Common.{arith, sym, ◌∙◌}
use Rattle.yv_source.proofs.Runs.{well_at}
use Rattle.yv_source.proofs.double_quotes.len_before_gap.Goals as goal

pub returns-then-not-is_gap-clause-well : goal.returns-then-not-is_gap-clause-well
returns-then-not-is_gap-clause-well c =
    well_at c.args.bytes.now c.loop-len.len c.loop-len-test.true (omega (arith, c.loop-len.invariant.0, c.requires.end)) (sym c.is_gap.ensures ∙ c.if-not-is_gap.true)
