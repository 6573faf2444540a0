-- Names, and their order by bytes.
use Rattle.std.specs.Prelude.{ℕ, List, Bool}
use Rattle.std.specs.Cmp.Lexicographic.{slice_cmp}
use Rattle.std.specs.List.{list_any}
use Rattle.std.specs.List.Sorted.{IsStrictlySortedBy}
use Rattle.std.specs.Ordering.{nat_cmp}
use Rattle.std.specs.Str.{bytes_eq}

-- the text is one of these
abbrev pub is_named : List (List ℕ) → List ℕ → Bool
is_named names s = list_any (λ n. bytes_eq n s) names

-- each of these texts comes before all after it, so that none is there twice
abbrev pub Rises : List (List ℕ) → Type 0
Rises = IsStrictlySortedBy (slice_cmp nat_cmp)
