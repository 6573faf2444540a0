use Rattle.std.proofs.Common.{◌≡◌, ◌++◌}
use Rattle.yv_validate.specs.Faults.{reference_faults}
use Rattle.yv_validate.proofs.tell.tell_references.Given as goal

-- the paths so far are told
abbrev pub invariant-loop-path : goal.invariant-loop-path
invariant-loop-path l = l.faults.items ≡ l.initial.faults.items ++ reference_faults l.yielded
