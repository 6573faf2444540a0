-- The words of an argument (RFC 7950, sections 6.1 and 14).
use Rattle.std.specs.Prelude.{ℕ, not, List, filter}
use Rattle.std.specs.List.{slice_split}
use Rattle.yv_text_if_feature.specs.Bytes.{is_blank}
use Rattle.yv_text_if_feature.specs.Tokens.{is_empty}

-- a text cut at each blank; some pieces are empty
abbrev pub pieces : List ℕ → List (List ℕ)
pieces text = slice_split is_blank text

-- the words of a text are its pieces that aren't empty
unfoldable pub words : List ℕ → List (List ℕ)
words text = filter (λ word. not (is_empty word)) (pieces text)
