use Rattle.std.proofs.Common.{◌≡◌, true, take}
use Rattle.std.specs.List.{list_all}
use Rattle.yv_source.specs.Inner.Plain.{is_common}
use Rattle.yv_source.proofs.source.common_len.Given as goal

abbrev pub invariant-loop-i : goal.invariant-loop-i
invariant-loop-i l = list_all is_common (take l.i l.bytes) ≡ true
