-- Which numbers enums and bits have (RFC 7950, sections 9.6.3, 9.6.4.2, 9.7.3 and 9.7.4.2).
use Rattle.std.specs.Prelude.{◌≡◌, ℕ, ◌^◌, ℤ, pos, neg_ℤ, ◌+ℤ◌, ◌≤ℤ◌, ◌<ℤ◌, List, [], map, take, length, slice_get, Option, Some}
use Rattle.yv_base_numbers.specs.Entries.{Entry, StatedNumber, nothing, whole}
use Rattle.yv_base_numbers.specs.declared.numbering.NumberKind.{NumberKind}
use Rattle.yv_base_numbers.specs.declared.numbering.NumberKind.TheVariants.{Enumeration, Bits}

-- the names of entries, in order
abbrev pub names_of : List Entry → List (List ℕ)
names_of es = map (λ e. e.name) es

-- what is at two places differs
abbrev pub AreDistinct : {X : Type 0} → List X → Type 0
AreDistinct {X} xs = (i k : ℕ) (x : X) → slice_get xs i ≡ Some x → slice_get xs k ≡ Some x → i ≡ k

-- it is one of these numbers, and none of them is higher
pub record IsHighest (ns : List ℤ) (h : ℤ) : Type 0 where
  pub place : ℕ
  pub there : slice_get ns place ≡ Some h
  pub above : (k : ℕ) (n : ℤ) → slice_get ns k ≡ Some n → n ≤ℤ h

-- The number that is stated. Where nothing is: 0 for the first entry, and one more than the highest
-- before it for a later one. What isn't a number assigns none.
pub data IsAssigned (before : List ℤ) : StatedNumber → ℤ → Type 0 where
  own_number : {n : ℤ} → IsAssigned before (whole n) n
  first : before ≡ [] → IsAssigned before nothing (pos 0)
  next : {h : ℤ} → IsHighest before h → IsAssigned before nothing (h +ℤ pos 1)

-- an enum has a number of int32, a bit one of uint32
abbrev pub IsOfKind : NumberKind → ℤ → Type 0
IsOfKind Enumeration n = (neg_ℤ (pos (2 ^ 31)) ≤ℤ n) × (n <ℤ pos (2 ^ 31))
IsOfKind Bits n = (pos 0 ≤ℤ n) × (n <ℤ pos (2 ^ 32))

-- The numbers of all entries of a new type: names differ, numbers differ and are of the kind, and
-- each is assigned after those before it.
pub record AreNumbers (kind : NumberKind) (es : List Entry) (ns : List ℤ) : Type 0 where
  pub one_each : length es ≡ length ns
  pub names_differ : AreDistinct (names_of es)
  pub numbers_differ : AreDistinct ns
  pub of_kind : (i : ℕ) (n : ℤ) → slice_get ns i ≡ Some n → IsOfKind kind n
  pub assigned : (i : ℕ) (e : Entry) (n : ℤ) → slice_get es i ≡ Some e → slice_get ns i ≡ Some n
      → IsAssigned (take i ns) e.stated n

-- nothing is stated, or just this number
pub data StatesNoOther (n : ℤ) : StatedNumber → Type 0 where
  without_number : StatesNoOther n nothing
  same_number : StatesNoOther n (whole n)

-- The numbers of all entries of a type that is derived from one with these numbers: names differ,
-- each is one of the base and keeps its number, and nothing else is stated.
pub record AreKept (base : List ℕ → Option ℤ) (es : List Entry) (ns : List ℤ) : Type 0 where
  pub one_each : length es ≡ length ns
  pub names_differ : AreDistinct (names_of es)
  pub same : (i : ℕ) (e : Entry) (n : ℤ) → slice_get es i ≡ Some e → slice_get ns i ≡ Some n
      → base e.name ≡ Some n
  pub own_number : (i : ℕ) (e : Entry) (n : ℤ) → slice_get es i ≡ Some e → slice_get ns i ≡ Some n
      → StatesNoOther n e.stated
