-- Only private clauses cite this: what is kept of the entries that were passed.
use Rattle.std.specs.Prelude.{◌≡◌, ℕ, ◌<◌, ℤ, Bool, not, ◌||◌, List, [], ◌∷◌, ◌++◌, Option, Some, None, is_some, if◌then◌else◌}
use Rattle.std.specs.BTreeSet.{contains}
use Rattle.std.specs.Borrow.{Bor}
use Rattle.std.specs.Option.{option_map}
use Rattle.std.specs.Ordering.{int_cmp}
use Rattle.std.specs.Str.{bytes_eq}
use Rattle.yv_base_numbers.specs.Entries.{stated_number}
use Rattle.yv_base_numbers.specs.Numberings.{Pair, number_in, number_from, next_number, is_taken, highest, table_of}
use Rattle.yv_base_numbers.specs.declared.numbering.Numbering.{Numbering}
use Rattle.yv_base_numbers.specs.declared.earlier_entries.EarlierEntries.{EarlierEntries}

-- the name has the number, and the others have theirs
abbrev pub Gives : Numbering → Numbering → List ℕ → ℤ → Type 0
Gives old new name n =
    (s : List ℕ) → table_of new s ≡ (if bytes_eq name s then Some n else table_of old s)

-- the table of these pairs
abbrev pub Tells : Numbering → List Pair → Type 0
Tells numbering ps = (s : List ℕ) → table_of numbering s ≡ number_in ps s

-- names, numbers and the highest number of these pairs
pub record Keeps (seen : EarlierEntries) (ps : List Pair) : Type 0 where
  pub names : Tells seen.names ps
  pub numbers : (n : ℤ) → contains int_cmp seen.taken n ≡ is_taken ps n
  pub top : seen.highest ≡ highest ps

-- Behind the pairs that were kept it tells whether an entry isn't wrong, and then it keeps the
-- entry's pair too.
abbrev pub Adds : {S : Type 0} → (S → List Pair → Type 0) → (List Pair → Bool) → (List Pair → Pair)
    → S → S → Bool → Type 0
Adds {S} holds wrong pair old new good =
    (ps : List Pair) → holds old ps →
    (good ≡ not (wrong ps)) × holds new (if wrong ps then ps else ps ++ pair ps ∷ [])

-- the number that this text states, or the next one after the highest
abbrev pub number_behind : Option ℤ → Option (Bor (List ℕ)) → Option ℤ
number_behind highest stated =
    number_from (next_number highest) (stated_number (option_map (λ t. t.now) stated))

-- the first place where an entry was wrong, with one more entry, at this place
abbrev pub first_with : Option ℕ → ℕ → Bool → Option ℕ
first_with found i good = if good || is_some found then found else Some i

-- the least of these places below n
abbrev pub IsLeastBelow : (ℕ → Type 0) → ℕ → Option ℕ → Type 0
IsLeastBelow P n None = (k : ℕ) → k < n → P k → ⊥
IsLeastBelow P n (Some i) = P i × ((k : ℕ) → k < i → P k → ⊥)
