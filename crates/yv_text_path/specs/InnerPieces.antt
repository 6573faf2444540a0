-- Only private clauses cite this: how the pieces of a text are read one by one.
use Rattle.std.proofs.Common.{suc}
use Rattle.std.specs.Prelude.{ℕ, List, [], ◌∷◌, if◌then◌else◌}
use Rattle.yv_text_path.specs.Pieces.{is_word_byte}

-- how many bytes of words come first
abbrev pub word_len : List ℕ → ℕ
word_len [] = 0
word_len (b ∷ bs) = if is_word_byte b then suc (word_len bs) else 0
