-- Numbers of what is said as leafrefs.
use Rattle.std.proofs.Common.{◌≡◌, inl, inr, ℕ, ◌+◌, ◌<◌, ◌≤◌, zero, suc, Bool, true, false, cond, List, [], ◌∷◌, ◌++◌, length, Option, None, Some, refl, sym, ◌∙◌, ap, subst, arith, length-append, below_more}
use Rattle.std.specs.List.{slice_get, slice_index_or}
use Rattle.std.specs.Option.{option_and_then}
use Rattle.std.specs.Ordering.{nat_cmp, bool_cmp, is_eq}
use Rattle.std.specs.Cmp.{Equal-is}
use Rattle.std.specs.declared.cmp.Ordering.{Ordering}
use Rattle.std.specs.declared.cmp.Ordering.TheVariants.{Less, Equal, Greater}
use Rattle.std.specs.BTreeMap.{BTreeMap, get, UpdatesBy}
use Rattle.std.proofs.lemmas.Bool.{cases_lt}
use Rattle.std.proofs.lemmas.List.{get_or_append_left, get_or_past}
use Rattle.std.proofs.lemmas.Map.Lookups.{CmpEqualImpliesEq, exact_pairs, exact_unsigned}
use Rattle.std.proofs.lemmas.Option.{same_Some}
use Rattle.yv_node_leafrefs.specs.Schema.{Referral, leafref_of_row}
use Rattle.yv_schema.specs.InnerNumbers.{IsNumbered, KeepsNumbers, key_cmp}

-- what is numbered stays so
pub stays_numbered : (old new : List Referral) → KeepsNumbers old new → (number : Option ℕ) (said : Option Referral) → IsNumbered old number said → IsNumbered new number said
stays_numbered old new stay None None is = refl
stays_numbered old new stay None (Some r) is = absurd (let e : None ≡ Some (Some r) = is in cc)
stays_numbered old new stay (Some k) None is = absurd (let e : Some (slice_get old k) ≡ None = is in cc)
stays_numbered old new stay (Some k) (Some r) is = ap Some (stay k r (same_Some (slice_get old k) (Some r) is))

-- one more is said
stay_before : (said : List Referral) (r : Referral) → KeepsNumbers said (said ++ r ∷ [])
stay_before [] r k x at = absurd (let e : None ≡ Some x = at in cc)
stay_before (y ∷ ys) r zero x at = at
stay_before (y ∷ ys) r (suc k) x at = stay_before ys r k x at

last : (said : List Referral) (r : Referral) → slice_get (said ++ r ∷ []) (length said) ≡ Some r
last [] r = refl
last (y ∷ ys) r = last ys r

pub stay_more : (old new : List Referral) (r : Referral) → new ≡ old ++ r ∷ [] → KeepsNumbers old new
stay_more old new r e = subst (KeepsNumbers old) (sym e) (stay_before old r)

pub numbered_last : (old new : List Referral) (n : ℕ) (r : Referral) → n ≡ length old → new ≡ old ++ r ∷ [] → IsNumbered new (Some n) (Some r)
numbered_last old new n r here e = ap Some (ap (slice_get new) here ∙ ap (λ (xs : List Referral). slice_get xs (length old)) e ∙ last old r)

-- what a number tells
pub said_numbered : (leafrefs : List Referral) (number : Option ℕ) (said : Option Referral) → IsNumbered leafrefs number said → option_and_then (slice_get leafrefs) number ≡ said
said_numbered leafrefs None None is = refl
said_numbered leafrefs None (Some r) is = absurd (let e : None ≡ Some (Some r) = is in cc)
said_numbered leafrefs (Some k) None is = absurd (let e : Some (slice_get leafrefs k) ≡ None = is in cc)
said_numbered leafrefs (Some k) (Some r) is = same_Some (slice_get leafrefs k) (Some r) is

-- what holds of all that is known, and of what is added, holds of all that is known then
pub known_more : {K X : Type 0} (cmp : K → K → Ordering) → CmpEqualImpliesEq cmp → (P : K → X → Type 0) (old new : BTreeMap K X) (key : K) (x : X) → UpdatesBy cmp (cmp key) old new (Some x)
    → ((k : K) (y : X) → get cmp old k ≡ Some y → P k y) → P key x → (k : K) (y : X) → get cmp new k ≡ Some y → P k y
known_more {K = K} {X = X} cmp exact P old new key x updates before here k y at = by (is_eq (cmp key k)) refl
  where
    by : (same : Bool) → is_eq (cmp key k) ≡ same → P k y
    by true e =
        let is : key ≡ k = exact key k ((Equal-is (cmp key k)).0 e) in
        let found : Some x ≡ Some y = sym (updates.0 k ∙ ap (λ b. cond b (Some x) (get cmp old k)) e) ∙ at in
        subst (λ (z : X). P k z) (same_Some x y found) (subst (λ (j : K). P j x) is here)
    by false e = before k y (sym (updates.0 k ∙ ap (λ b. cond b (Some x) (get cmp old k)) e) ∙ at)

exact_bool : CmpEqualImpliesEq bool_cmp
exact_bool false false e = refl
exact_bool false true e = absurd (let h : Less ≡ Equal = e in cc)
exact_bool true false e = absurd (let h : Greater ≡ Equal = e in cc)
exact_bool true true e = refl

pub exact_key : CmpEqualImpliesEq key_cmp
exact_key = exact_pairs nat_cmp bool_cmp exact_unsigned exact_bool

-- one more node
pub longer : {A : Type 0} (old new : List A) (x : A) (i : ℕ) → length old ≡ i → new ≡ old ++ x ∷ [] → length new ≡ i + 1
longer old new x i each e = ap length e ∙ length-append old (x ∷ []) ∙ ap (λ n. n + 1) each

pub numbers_more : (P : ℕ → Option ℕ → Type 0) (i : ℕ) (old new : List (Option ℕ)) (number : Option ℕ) → length old ≡ i → new ≡ old ++ number ∷ []
    → ((n : ℕ) → n < i → P n (slice_index_or old n None)) → P i number → (n : ℕ) → n < i + 1 → P n (slice_index_or new n None)
numbers_more P i old new number each e before here =
    below_more (λ (n : ℕ). P n (slice_index_or new n None)) i
    (λ n less. subst (P n) (sym (ap (λ (xs : List (Option ℕ)). slice_index_or xs n None) e ∙ get_or_append_left old (number ∷ []) None n (omega (arith, less, each)))) (before n less))
    (subst (P i) (sym (ap (λ (xs : List (Option ℕ)). slice_index_or xs i None) e ∙ ap (λ (n : ℕ). slice_index_or (old ++ number ∷ []) n None) (sym each) ∙ added old)) here)
  where
    added : (xs : List (Option ℕ)) → slice_index_or (xs ++ number ∷ []) (length xs) None ≡ number
    added [] = refl
    added (x ∷ xs) = added xs

-- what the numbers of all nodes tell
pub told_by : (told : ℕ → Option Referral) (count : ℕ) (of : List (Option ℕ)) (leafrefs : List Referral) → length of ≡ count → ((n : ℕ) → count ≤ n → told n ≡ None)
    → ((n : ℕ) → n < count → IsNumbered leafrefs (slice_index_or of n None) (told n)) → (n : ℕ) → leafref_of_row of leafrefs n ≡ told n
told_by told count of leafrefs each none numbered n = elim (cases_lt n count) [
  | inl less ↦ said_numbered leafrefs (slice_index_or of n None) (told n) (numbered n less)
  | inr up ↦ ap (option_and_then (slice_get leafrefs)) (get_or_past of n None (omega (arith, up, each))) ∙ sym (none n up)
]
