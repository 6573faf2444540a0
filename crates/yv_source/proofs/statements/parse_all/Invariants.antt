use Rattle.std.proofs.Common.{take}
use Rattle.std.specs.List.{AllZip}
use Rattle.yv_source.specs.Answer.{IsSpelled}
use Rattle.yv_source.proofs.statements.parse_all.Given as goal

-- the statements so far
abbrev pub invariant-loop-number : goal.invariant-loop-number
invariant-loop-number l = AllZip IsSpelled (take l.number l.texts) l.statements.items
