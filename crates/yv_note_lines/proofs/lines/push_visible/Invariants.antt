use Rattle.std.proofs.Common.{◌≡◌, ◌++◌, take, string_bytes}
use Rattle.yv_note_lines.specs.Lines.{visible_text}
use Rattle.yv_note_lines.proofs.lines.push_visible.Given as goal

abbrev pub invariant-loop-byte : goal.invariant-loop-byte
invariant-loop-byte l = string_bytes l.text ≡ string_bytes l.fn.text ++ visible_text (take l.byte-index l.bytes)
