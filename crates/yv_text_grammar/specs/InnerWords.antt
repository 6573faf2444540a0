-- Only private clauses cite this: how the words of a text are read one by one.
use Rattle.std.proofs.Common.{suc}
use Rattle.std.specs.Prelude.{ℕ, List, [], ◌∷◌, if◌then◌else◌}
use Rattle.yv_text_if_feature.specs.Bytes.{is_blank}
use Rattle.yv_text_grammar.specs.Words.{words}
use Rattle.yv_text_grammar.specs.declared.words.Words.{Words}

-- how many bytes come before the first blank
abbrev pub word_len : List ℕ → ℕ
word_len [] = 0
word_len (b ∷ bs) = if is_blank b then 0 else suc (word_len bs)

-- the words that are still to come
abbrev pub words_left : Words → List (List ℕ)
words_left it = words it.rest.now
