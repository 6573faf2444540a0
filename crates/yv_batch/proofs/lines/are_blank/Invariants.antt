use Rattle.std.proofs.Common.{◌≡◌, drop}
use Rattle.std.specs.List.{list_all}
use Rattle.yv_batch.specs.LineDocuments.{is_blank_byte}
use Rattle.yv_batch.proofs.lines.are_blank.Given as goal

-- those so far are blank
abbrev pub invariant-loop-byte : goal.invariant-loop-byte
invariant-loop-byte l = list_all is_blank_byte (drop l.byte-index l.bytes) ≡ list_all is_blank_byte l.bytes
