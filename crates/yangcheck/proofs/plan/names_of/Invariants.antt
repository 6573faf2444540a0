use Rattle.std.proofs.Common.{◌≡◌, length}
use Rattle.yangcheck.proofs.plan.names_of.Given as goal

abbrev pub invariant-loop-file : goal.invariant-loop-file
invariant-loop-file l = length l.names.items ≡ l.file-index
