use Rattle.std.proofs.Common.{◌-◌, length}
use Rattle.yv_source.proofs.Runs.{WritesTo}
use Rattle.yv_source.proofs.double_quotes.write_quoted.Given as goal

abbrev pub invariant-loop-writer : goal.invariant-loop-writer
invariant-loop-writer l = WritesTo l.indent l.text l.at l.writer

abbrev pub decreases-loop-writer : goal.decreases-loop-writer
decreases-loop-writer l = length l.text - l.at
