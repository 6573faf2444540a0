-- Only private clauses cite this: the code's keywords, and its pairs of a type and a keyword.
use Rattle.std.specs.Prelude.{ℕ, ◌&&◌, Bool, List, [], ◌∷◌}
use Rattle.std.specs.List.{list_any}
use Rattle.std.specs.Str.{bytes_eq}
use Rattle.yv_text_statement.specs.Keywords.{same}
use Rattle.yv_text_statement.specs.declared.keyword.Keyword.{Keyword}
use Rattle.yv_text_statement.specs.declared.keyword.Keyword.TheVariants as word
use Rattle.yv_type_chains.specs.declared.kinds.Pair.{Pair}

abbrev pub pair : Pair → List ℕ × Keyword
pair p = (p.kind.now, p.keyword)

-- the keyword is one of these
abbrev pub is_one_of : List Keyword → Keyword → Bool
is_one_of keywords keyword = list_any (λ k. same keyword k) keywords

-- the two are a pair
abbrev pub is_paired : List (List ℕ × Keyword) → List ℕ → Keyword → Bool
is_paired pairs kind keyword = list_any (λ p. same keyword p.1 && bytes_eq p.0 kind) pairs

-- the type is in a pair
abbrev pub is_in_pair : List (List ℕ × Keyword) → List ℕ → Bool
is_in_pair pairs kind = list_any (λ p. bytes_eq p.0 kind) pairs

-- a type may need a substatement of this keyword
abbrev pub may_be_needed : Keyword → Bool
may_be_needed keyword =
    is_one_of (word.FractionDigits ∷ word.Enum ∷ word.Bit ∷ word.Base ∷ word.Path ∷ word.Type ∷ [])
    keyword
