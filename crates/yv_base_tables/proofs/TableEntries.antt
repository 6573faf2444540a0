-- Values at numbers, as they are put there.
use Rattle.std.proofs.Common.{◌≡◌, ◌≢◌, ℕ, ◌+◌, ◌<◌, ◌≤◌, inl, inr, zero, suc, List, [], ◌∷◌, ◌++◌, length, set, get_or, refl, ◌∙◌, ap, arith, Some, add-one, length-append, length-set, get_or-set_same}
use Rattle.std.specs.List.{All, slice_get}
use Rattle.std.proofs.lemmas.Bool.{cases_eq, cases_lt}
use Rattle.std.proofs.lemmas.List.{get_or_default, get_or-set_other}
use Rattle.yv_base_tables.specs.Table.{item_from}

-- no place is past the items
abbrev pub Within : ℕ → List ℕ → Type 0
Within count places = All (λ place. place ≤ count) places

past_zero : (places : List ℕ) (k : ℕ) → length places ≤ k → get_or places k 0 ≡ 0
past_zero [] k h = refl
past_zero (p ∷ places) zero h = absurd (omega (arith, h))
past_zero (p ∷ places) (suc k) h = past_zero places k (omega (arith, h))

at_most : (places : List ℕ) (count k : ℕ) → Within count places → get_or places k 0 ≤ count
at_most places count k h = elim (cases_lt k (length places)) [
  | inl low ↦ h k 0 low
  | inr up ↦ let e = past_zero places k up in omega (arith, e)
]

-- more places, and more items
pub within_grown : (old new : List ℕ) (count more : ℕ) → ((k : ℕ) → get_or new k 0 ≡ get_or old k 0) → count ≤ more → Within count old → Within more new
within_grown old new count more same l h k d low =
    let e = get_or_default new k d 0 low in
    let f = same k in
    let m = at_most old count k h in
    omega (arith, e, f, m, l)

pub within_set : (places : List ℕ) (count number place : ℕ) → place ≤ count → Within count places → Within count (set places number place)
within_set places count number place l h k d low =
    let each : length (set places number place) ≡ length places = length-set places number place in
    elim (cases_eq k number) [
      | inl same ↦ let e : get_or (set places number place) k d ≡ place = ap (λ x. get_or (set places number place) x d) same ∙ get_or-set_same places number place d (omega (arith, each, same, low)) in omega (arith, e, l)
      | inr ne ↦ let e = get_or-set_other places number k place d ne in let w = h k d (omega (arith, each, low)) in omega (arith, e, w)
    ]

module _ {A : Type 0} where
  kept_at : (items : List A) (item : A) (k : ℕ) → k < length items → slice_get (items ++ item ∷ []) k ≡ slice_get items k
  kept_at [] item k h = absurd (omega (arith, h))
  kept_at (x ∷ items) item zero h = refl
  kept_at (x ∷ items) item (suc k) h = kept_at items item k (omega (arith, h))

  last_at : (items : List A) (item : A) → slice_get (items ++ item ∷ []) (length items) ≡ Some item
  last_at [] item = refl
  last_at (x ∷ items) item = last_at items item

  kept : (items : List A) (item : A) (place : ℕ) → place ≤ length items → item_from (items ++ item ∷ []) place ≡ item_from items place
  kept items item zero h = refl
  kept items item (suc place) h = kept_at items item place (omega (arith, h))

  -- what is put at a number
  pub put_here : (places : List ℕ) (items more : List A) (item : A) (number place : ℕ) → number < length places → more ≡ items ++ item ∷ [] → place ≡ length more → item_from more (get_or (set places number place) number 0) ≡ Some item
  put_here places items more item number place low now end =
      let more_items : length more ≡ length items + 1 = ap length now ∙ length-append items (item ∷ []) in
      let count : place ≡ suc (length items) = end ∙ more_items ∙ add-one (length items) in
      ap (item_from more) (get_or-set_same places number place 0 low ∙ count)
      ∙ ap (λ xs. slice_get xs (length items)) now
      ∙ last_at items item

  -- and what stays at others
  pub put_elsewhere : (old places : List ℕ) (items more : List A) (item : A) (number place : ℕ) → Within (length items) old → ((k : ℕ) → get_or places k 0 ≡ get_or old k 0) → more ≡ items ++ item ∷ [] → (k : ℕ) → k ≢ number → item_from more (get_or (set places number place) k 0) ≡ item_from items (get_or old k 0)
  put_elsewhere old places items more item number place within same now k ne =
      ap (item_from more) (get_or-set_other places number k place 0 ne ∙ same k)
      ∙ ap (λ xs. item_from xs (get_or old k 0)) now
      ∙ kept items item (get_or old k 0) (at_most old (length items) k within)
