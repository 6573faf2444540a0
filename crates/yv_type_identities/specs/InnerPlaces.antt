-- Only private clauses cite this: where candidates stand.
use Rattle.std.specs.Prelude.{◌≡◌, ℕ, Bool, false, nat_eq, List, [], slice_get}
use Rattle.std.specs.BTreeMap.{get}
use Rattle.std.specs.List.{list_any}
use Rattle.std.specs.Option.{option_map, unwrap_or}
use Rattle.std.specs.Ordering.{nat_cmp, ordering_then}
use Rattle.yv_type_identities.specs.InnerSets.{is_key}
use Rattle.yv_type_identities.specs.declared.candidates.Candidate.{Candidate}
use Rattle.yv_type_identities.specs.declared.places.CandidatePlaces.{CandidatePlaces}

-- the numbers that are kept for a file and an offset
abbrev pub numbers_at : CandidatePlaces → ℕ × ℕ → List ℕ
numbers_at places k =
    unwrap_or (option_map (λ v. v.items)
    (get (λ x y. ordering_then (nat_cmp x.0 y.0) (nat_cmp x.1 y.1)) places.map k)) []

-- whether a number is one of them
abbrev pub is_kept : CandidatePlaces → ℕ × ℕ → ℕ → Bool
is_kept places k number = list_any (nat_eq number) (numbers_at places k)

-- whether the candidate of a number is there
abbrev pub stands_at : List Candidate → ℕ × ℕ → ℕ → Bool
stands_at cs k number =
    unwrap_or (option_map (λ (c : Candidate). is_key c.identity k) (slice_get cs number)) false

-- for each file and offset the numbers of the candidates there are kept, and no others
abbrev pub ArePlaced : List Candidate → CandidatePlaces → Type 0
ArePlaced cs places = (k : ℕ × ℕ) (number : ℕ) → is_kept places k number ≡ stands_at cs k number
