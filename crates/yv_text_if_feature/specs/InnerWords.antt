-- Only private clauses cite this: how the words of a text are read one by one.
use Rattle.std.proofs.Common.{suc}
use Rattle.std.specs.Prelude.{ℕ, ◌||◌, List, [], ◌∷◌, if◌then◌else◌}
use Rattle.yv_text_if_feature.specs.Bytes.{is_blank, is_parenthesis}

-- how many bytes come before the first blank or parenthesis
abbrev pub word_len : List ℕ → ℕ
word_len [] = 0
word_len (b ∷ bs) = if is_blank b || is_parenthesis b then 0 else suc (word_len bs)

-- how many bytes the word at the front has, if no blank is there
abbrev pub first_len : List ℕ → ℕ
first_len [] = 0
first_len (b ∷ bs) = if is_parenthesis b then 1 else word_len (b ∷ bs)
