use Rattle.std.proofs.Common.{◌≡◌, ◌≤◌, ◌-◌, true, take, length}
use Rattle.yv_source.specs.Inner.Writer.{TakesEach, is_at_rest}
use Rattle.yv_source.proofs.double_quotes.Writer.take_escapes.Given as goal

abbrev pub invariant-loop-c : goal.invariant-loop-c
invariant-loop-c l = TakesEach l.fn.self (take l.len l.text) l.self × (l.len ≤ length l.text) × (is_at_rest l.self ≡ true)

abbrev pub decreases-loop-c : goal.decreases-loop-c
decreases-loop-c l = length l.text - l.len
