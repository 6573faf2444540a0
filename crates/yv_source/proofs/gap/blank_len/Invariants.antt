use Rattle.std.proofs.Common.{◌≡◌, true, take}
use Rattle.std.specs.List.{list_all}
use Rattle.yv_source.specs.Pieces.{is_blank}
use Rattle.yv_source.proofs.gap.blank_len.Given as goal

abbrev pub invariant-loop-i : goal.invariant-loop-i
invariant-loop-i l = list_all is_blank (take l.i l.bytes) ≡ true
