use Rattle.std.proofs.Common.{◌≡◌, ◌-◌}
use Rattle.yv_source.specs.Inner.Writer.{keep_spaces}
use Rattle.yv_source.proofs.double_quotes.Writer.keep_spaces.Given as goal

abbrev pub invariant-loop : goal.invariant-loop
invariant-loop l = keep_spaces (l.count - l.counter) l.self ≡ keep_spaces l.count l.fn.self
