use Rattle.std.proofs.Common.{◌≡◌, take}
use Rattle.std.specs.List.{list_all}
use Rattle.yv_source.specs.Inner.Plain.{is_common}
use Rattle.yv_source.proofs.source.are_common.Given as goal

abbrev pub invariant-loop-byte : goal.invariant-loop-byte
invariant-loop-byte l = l.all ≡ list_all is_common (take l.byte-index l.bytes)
