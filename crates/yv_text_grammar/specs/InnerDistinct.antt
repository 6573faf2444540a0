-- Only private clauses cite this: words in a table, and their order.
use Rattle.std.specs.Prelude.{ℕ, Bool, List}
use Rattle.std.specs.List.{list_any}
use Rattle.std.specs.Str.{bytes_eq}
use Rattle.std.specs.Cmp.Lexicographic.{slice_cmp}
use Rattle.std.specs.Ordering.{nat_cmp}
use Rattle.std.specs.declared.cmp.Ordering.{Ordering}
use denote.Ref.{Bor}

abbrev pub text_of : Bor (List ℕ) → List ℕ
text_of word = word.now

abbrev pub by_text : Bor (List ℕ) → Bor (List ℕ) → Ordering
by_text a b = slice_cmp nat_cmp a.now b.now

-- a word of the second list is in the first
abbrev pub share : List (List ℕ) → List (List ℕ) → Bool
share xs ys = list_any (λ word. list_any (bytes_eq word) xs) ys
