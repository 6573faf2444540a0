-- Only private clauses cite this: numbers of one place, each of which leads to the next.
use Rattle.std.specs.Prelude.{◌≡◌, ℕ, ◌+◌, ◌≤◌, ◌<◌, List, [], ◌∷◌, length, drop, set, if◌then◌else◌, nat_lt, Option, Some, None, slice_index_or}
use Rattle.yv_base_tables.specs.Families.{numbers_from}
use Rattle.yv_base_tables.specs.declared.chains.Chains.{Chains}

-- from the first on, each number leads to the next of these, which ascend from a least one
abbrev pub Leads : List (Option ℕ) → (least : ℕ) → Option ℕ → List ℕ → Type 0
Leads next least first [] = first ≡ None
Leads next least first (k ∷ ks) =
    (first ≡ Some k) × (least ≤ k) × (k < length next)
    × Leads next (k + 1) (slice_index_or next k None) ks

-- these are the numbers at a place
abbrev pub IsChain : Chains → ℕ → List ℕ → Type 0
IsChain chains place ks =
    Leads chains.next.items 0 (slice_index_or chains.firsts.items place None) ks

-- the numbers from this one on are linked
pub record AreChains (places : List (Option ℕ)) (count from : ℕ) (chains : Chains) : Type 0 where
  pub firsts : length chains.firsts.items ≡ count
  pub nexts : length chains.next.items ≡ length places
  pub leads : (p : ℕ) → p < count
      → Leads chains.next.items from (slice_index_or chains.firsts.items p None)
      (numbers_from p from (drop from places))

-- a number is put before the others at its place, if that is one of the places
abbrev pub firsts_with : (number : ℕ) → Option ℕ → List (Option ℕ) → List (Option ℕ)
firsts_with number None firsts = firsts
firsts_with number (Some p) firsts =
    if nat_lt p (length firsts) then set firsts p (Some number) else firsts

abbrev pub next_with : (number : ℕ) → Option ℕ → (firsts next : List (Option ℕ)) → List (Option ℕ)
next_with number None firsts next = next
next_with number (Some p) firsts next =
    if nat_lt p (length firsts) then set next number (slice_index_or firsts p None) else next

pub record Links (number : ℕ) (place : Option ℕ) (old new : Chains) : Type 0 where
  pub firsts : new.firsts.items ≡ firsts_with number place old.firsts.items
  pub next : new.next.items ≡ next_with number place old.firsts.items old.next.items
