-- The numbers of enumerations and of bits as functions, which leave out what is wrong. `Assigned`
-- says which numbers entries have by the RFC; that these functions answer just those, and find
-- nothing wrong just there, is said by the laws
-- `numbers_are_assigned` and `numbers_are_kept`.
use Rattle.std.specs.Prelude.{◌≡◌, ℕ, ◌<◌, ℤ, pos, negsuc, ◌+ℤ◌, int_le, Bool, true, false, not, ◌&&◌, ◌||◌, List, [], ◌∷◌, ◌++◌, take, slice_get, Option, Some, None, is_some, if◌then◌else◌}
use Rattle.std.specs.BTreeMap.{BTreeMap, get_by}
use Rattle.std.specs.Borrow.{Bor}
use Rattle.std.specs.Cmp.Lexicographic.{slice_cmp}
use Rattle.std.specs.Int.{int_max}
use Rattle.std.specs.List.{list_any}
use Rattle.std.specs.Option.{unwrap_or}
use Rattle.std.specs.Ordering.{int_eq, nat_cmp}
use Rattle.std.specs.Str.{bytes_eq}
use Rattle.yv_base_numbers.specs.Entries.{Entry, StatedNumber, nothing, whole, no_number}
use Rattle.yv_base_numbers.specs.declared.numbering.NumberKind.{NumberKind}
use Rattle.yv_base_numbers.specs.declared.numbering.NumberKind.TheVariants.{Enumeration, Bits}
use Rattle.yv_base_numbers.specs.declared.numbering.Numbering.{Numbering}

-- a name with its number
pub record Pair : Type 0 where
  pub name : List ℕ
  pub number : ℤ

-- the number of a name
abbrev pub number_in : List Pair → List ℕ → Option ℤ
number_in [] s = None
number_in (p ∷ ps) s = if bytes_eq p.name s then Some p.number else number_in ps s

-- it is the number of one of the names
abbrev pub is_taken : List Pair → ℤ → Bool
is_taken ps n = list_any (λ p. int_eq p.number n) ps

-- the greater of the highest so far and a number
abbrev pub higher : Option ℤ → ℤ → ℤ
higher None n = n
higher (Some h) n = int_max h n

-- the highest number, or this one
abbrev pub highest_from : Option ℤ → List Pair → Option ℤ
highest_from h [] = h
highest_from h (p ∷ ps) = highest_from (Some (higher h p.number)) ps

-- the highest number that was assigned, if any was
abbrev pub highest : List Pair → Option ℤ
highest ps = highest_from None ps

-- 0, or one more than the highest
abbrev pub next_number : Option ℤ → ℤ
next_number None = pos 0
next_number (Some h) = h +ℤ pos 1

-- the number that is stated, or the next one where nothing is stated
abbrev pub number_from : ℤ → StatedNumber → Option ℤ
number_from after nothing = Some after
number_from after (whole n) = Some n
number_from after no_number = None

-- the number of an entry after those that have theirs
abbrev pub number_of : List Pair → Entry → Option ℤ
number_of before e = number_from (next_number (highest before)) e.stated

-- the name with its number; an entry that has no number is wrong, so that it doesn't matter which
-- one is here
abbrev pub pair_of : List Pair → Entry → Pair
pair_of before e = record { name = e.name; number = unwrap_or (number_of before e) (pos 0) }

-- the 32 bits of either kind
abbrev pub is_number : NumberKind → ℤ → Bool
is_number Enumeration n = int_le (negsuc 2147483647) n && int_le n (pos 2147483647)
is_number Bits n = int_le (pos 0) n && int_le n (pos 4294967295)

-- it is a number of the kind, and of none of these names
abbrev pub is_free : NumberKind → List Pair → Option ℤ → Bool
is_free kind before None = false
is_free kind before (Some n) = not (is_taken before n) && is_number kind n

-- After these pairs an entry of a new type is wrong: its name or its number is there, or it has no
-- number, or the kind hasn't the number.
abbrev pub is_wrong : NumberKind → List Pair → Entry → Bool
is_wrong kind before e =
    is_some (number_in before e.name) || not (is_free kind before (number_of before e))

-- the name with the number that the base gives it
abbrev pub pair_in : (List ℕ → Option ℤ) → Entry → Pair
pair_in base e = record { name = e.name; number = unwrap_or (base e.name) (pos 0) }

-- the base has this number, and nothing else is stated
abbrev pub agrees : StatedNumber → Option ℤ → Bool
agrees stated None = false
agrees nothing (Some n) = true
agrees (whole m) (Some n) = int_eq m n
agrees no_number (Some n) = false

-- After these pairs an entry of a derived type is wrong: its name is there, or is not one of the
-- base's, or something other than the number is stated.
abbrev pub is_wrong_in : (List ℕ → Option ℤ) → List Pair → Entry → Bool
is_wrong_in base before e = is_some (number_in before e.name) || not (agrees e.stated (base e.name))

-- the pairs with that of one more entry, which is left out where it is wrong after them
abbrev pub with_entry : (List Pair → Entry → Bool) → (List Pair → Entry → Pair) → List Pair → Entry
    → List Pair
with_entry wrong pair before e = if wrong before e then before else before ++ pair before e ∷ []

-- these pairs with those of the entries, one entry after another
abbrev pub pairs_behind : (List Pair → Entry → Bool) → (List Pair → Entry → Pair) → List Pair
    → List Entry → List Pair
pairs_behind wrong pair before [] = before
pairs_behind wrong pair before (e ∷ es) =
    pairs_behind wrong pair (with_entry wrong pair before e) es

-- each name of a new type with its number; the entries that are wrong are left out
abbrev pub number_entries : NumberKind → List Entry → List Pair
number_entries kind es = pairs_behind (is_wrong kind) pair_of [] es

-- each name of a derived type with its number; the entries that are wrong are left out
abbrev pub keep_numbers : (List ℕ → Option ℤ) → List Entry → List Pair
keep_numbers base es = pairs_behind (is_wrong_in base) (λ before e. pair_in base e) [] es

-- the entry at this place is wrong after the pairs of those before it
abbrev pub IsWrongAt : (List Entry → List Pair) → (List Pair → Entry → Bool) → List Entry → ℕ
    → Type 0
IsWrongAt pairs wrong es i =
    (e : Entry) × (slice_get es i ≡ Some e) × (wrong (pairs (take i es)) e ≡ true)

-- the least place where an entry is wrong, or none where no entry is
abbrev pub IsFirstWrong : (List Entry → List Pair) → (List Pair → Entry → Bool) → List Entry
    → Option ℕ → Type 0
IsFirstWrong pairs wrong es None = (k : ℕ) → IsWrongAt pairs wrong es k → ⊥
IsFirstWrong pairs wrong es (Some i) =
    IsWrongAt pairs wrong es i × ((k : ℕ) → k < i → IsWrongAt pairs wrong es k → ⊥)

-- the number under a name in a map
abbrev pub lookup_in : BTreeMap (Bor (List ℕ)) ℤ → List ℕ → Option ℤ
lookup_in m name = get_by (λ k. slice_cmp nat_cmp name k.now) m

-- what is looked up in a numbering
abbrev pub table_of : Numbering → List ℕ → Option ℤ
table_of numbering = lookup_in numbering.map
