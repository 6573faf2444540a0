-- The words of an if-feature expression (RFC 7950, sections 7.20.2 and 14).
use Rattle.std.specs.Prelude.{ℕ, Bool, not, List, [], ◌∷◌, filter, map, length, nat_eq, codes, if◌then◌else◌}
use Rattle.std.specs.List.{onto_first}
use Rattle.std.specs.Str.{bytes_eq}
use Rattle.yv_text_if_feature.specs.Bytes.{is_blank, is_parenthesis}
use Rattle.yv_text_if_feature.specs.Names.{is_name}

-- what a word is: a name says which
pub data Token : Type 0 where
  Open : Token
  Close : Token
  Not : Token
  And : Token
  Or : Token
  Name : List ℕ → Token
  Wrong : Token

-- `not`, `and` and `or` are never names
abbrev pub token_of : List ℕ → Token
token_of word =
    if bytes_eq word (codes "(") then Open else (if bytes_eq word (codes ")") then Close
    else (if bytes_eq word (codes "not") then Not
    else (if bytes_eq word (codes "and") then And else (if bytes_eq word (codes "or") then Or
    else (if is_name word then Name word else Wrong)))))

-- a text has no bytes
abbrev pub is_empty : List ℕ → Bool
is_empty text = nat_eq (length text) 0

-- a text cut at each blank, and round each parenthesis, which is a piece itself; some pieces are
-- empty
abbrev pub pieces : List ℕ → List (List ℕ)
pieces [] = [] ∷ []
pieces (b ∷ bs) =
    if is_blank b then [] ∷ pieces bs
    else (if is_parenthesis b then [] ∷ (b ∷ []) ∷ pieces bs else onto_first b (pieces bs))

-- the words of a text are its pieces that aren't empty
unfoldable pub words : List ℕ → List (List ℕ)
words text = filter (λ word. not (is_empty word)) (pieces text)

-- what the words of a text are
abbrev pub tokens : List ℕ → List Token
tokens text = map token_of (words text)

-- the names among words, in order
abbrev pub names_among : List Token → List (List ℕ)
names_among [] = []
names_among (Name n ∷ ts) = n ∷ names_among ts
names_among (t ∷ ts) = names_among ts
