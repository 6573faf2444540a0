use Rattle.std.proofs.Common.{◌≡◌, ◌++◌, map, take}
use Rattle.yv_values.specs.Types.{plain_of}
use Rattle.yv_types.proofs.table.extend.Given as goal

abbrev pub invariant-loop-plain : goal.invariant-loop-plain
invariant-loop-plain l = map plain_of l.all.items ≡ map plain_of l.initial.all.items ++ map plain_of (take l.plain-index l.types)
