use Rattle.std.proofs.Common.{◌≡◌, map, take}
use Rattle.yv_type_enums.specs.Entries.{entry_of}
use Rattle.yv_type_enums.proofs.entries.entries.Given as goal

abbrev pub invariant-loop-line : goal.invariant-loop-line
invariant-loop-line l = l.entries.items ≡ map (entry_of l.kind) (map (λ line. line.now) (take l.line-index l.lines))
