use Rattle.std.proofs.Common.{◌≡◌, length, ◌+◌, drop}
use Rattle.yv_source.specs.Pieces.{until, ends_word}
use Rattle.yv_source.proofs.scan.word_len.Given as goal

abbrev pub invariant-loop-i : goal.invariant-loop-i
invariant-loop-i l = length (until ends_word l.bytes) ≡ l.i + length (until ends_word (drop l.i l.bytes))
