use Rattle.std.proofs.Common.{◌≡◌, false, replicate}
use Rattle.yv_expand_rounds.proofs.hidden_nodes.HiddenNodes.new.Given as goal

abbrev pub invariant-loop : goal.invariant-loop
invariant-loop l = l.marks.items ≡ replicate l.counter false
