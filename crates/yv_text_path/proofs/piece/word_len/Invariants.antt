use Rattle.std.proofs.Common.{◌≡◌, ◌+◌, drop}
use Rattle.yv_text_path.specs.InnerPieces.{word_len}
use Rattle.yv_text_path.proofs.piece.word_len.Given as goal

abbrev pub invariant-loop-byte : goal.invariant-loop-byte
invariant-loop-byte l = record {
  index : l.count ≡ l.byte-index;
  len : l.count + word_len (drop l.byte-index l.text) ≡ word_len l.text;
}
