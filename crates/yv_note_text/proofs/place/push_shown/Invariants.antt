use Rattle.std.proofs.Common.{◌≡◌, ◌++◌, take, string_bytes}
use Rattle.yv_note_text.specs.Excerpt.{ascii_text}
use Rattle.yv_note_text.proofs.place.push_shown.Given as goal

abbrev pub invariant-loop-byte : goal.invariant-loop-byte
invariant-loop-byte l = string_bytes l.text ≡ string_bytes l.fn.text ++ ascii_text (take l.byte-index l.bytes)
