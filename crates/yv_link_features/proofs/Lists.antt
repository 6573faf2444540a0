-- The lists of conditions, made in one pass.
use Rattle.std.proofs.Common.{◌≡◌, ◌≢◌, ℕ, zero, suc, ◌+◌, ◌<◌, ◌≤◌, ◌==◌, ◌&&◌, inl, inr, true, false, List, [], ◌∷◌, ◌++◌, length, map, get_or, set, Some, refl, sym, ◌∙◌, ap, subst, arith, get_or-set_other, get_or-set_same}
use Rattle.std.specs.List.{Contains, slice_get}
use Rattle.std.specs.Option.{option_map}
use Rattle.std.specs.declared.vec.Vec.{Vec}
use Rattle.std.specs.declared.alloc.Global.{Global}
use Rattle.std.proofs.lemmas.Bool.{and_parts, cases_eq, eq-eqb, eqb-true, false≢true}
use Rattle.std.proofs.lemmas.List.{get_or-map, length-map, map-append, map-set}
use Rattle.std.proofs.lemmas.List.Elements.{Contains-append_left, Contains-append_right, Contains-append_cases}
use Rattle.std.proofs.lemmas.Option.{same_Some, slice_get-map, slice_get_read, slice_get_within}
use Rattle.yv_link_scopes.specs.Rows.{Row}
use Rattle.yv_link_features.specs.Meaning.{is_if_feature}
use Rattle.yv_link_features.specs.InnerGraph.{IsIfFeatureAt, ListsUpTo, AreLists, numbers_at}

push_none : (xs : List (List ℕ)) (k : ℕ) → ((k : ℕ) → get_or xs k [] ≡ []) → get_or (xs ++ [] ∷ []) k [] ≡ []
push_none [] zero h = refl
push_none [] (suc k) h = refl
push_none (x ∷ xs) zero h = h 0
push_none (x ∷ xs) (suc k) h = push_none xs k (λ i. h (suc i))

-- one more empty list
pub empty_more : (lists now : List (Vec ℕ Global)) (v : Vec ℕ Global) → now ≡ lists ++ v ∷ [] → v.items ≡ [] → ((k : ℕ) → numbers_at lists k ≡ []) → (k : ℕ) → numbers_at now k ≡ []
empty_more lists now v e f h k =
    ap (λ xs. get_or xs k []) (ap (map (λ v. v.items)) e ∙ map-append (λ v. v.items) lists (v ∷ []) ∙ ap (λ x. map (λ v. v.items) lists ++ x ∷ []) f)
    ∙ push_none (map (λ v. v.items) lists) k h

none_in : (i : ℕ) → Contains [] i → ⊥
none_in i h = omega (arith, h.1)

pub contains_one : (x y : ℕ) → Contains (x ∷ []) y → x ≡ y
contains_one x y (zero, l, e) = e
contains_one x y (suc k, l, e) = absurd (omega (arith, l))

-- no statement is listed yet
pub lists_start : (rows : List Row) (lists : List (Vec ℕ Global)) → length lists ≡ length rows → ((k : ℕ) → numbers_at lists k ≡ []) → ListsUpTo rows 0 lists
lists_start rows lists e h = record {
  each = e;
  exact = λ k i. (λ c. absurd (none_in i (subst (λ xs. Contains xs i) (h k) c)), λ p. absurd (omega (arith, p.0)));
}

-- the next one is no condition
pub lists_same : (rows : List Row) (n : ℕ) (r : Row) (lists : List (Vec ℕ Global)) → slice_get rows n ≡ Some r → is_if_feature r ≡ false → ListsUpTo rows n lists → ListsUpTo rows (n + 1) lists
lists_same rows n r lists at none h = record {
  each = h.each;
  exact = λ k i. (
    λ c. let p = (h.exact k i).0 c in (omega (arith, p.0), p.1),
    λ p. elim (cases_eq i n) [
      | inl e ↦ absurd (false≢true (sym none ∙ ap is_if_feature (same_Some r p.1.0 (sym at ∙ ap (slice_get rows) (sym e) ∙ p.1.1)) ∙ (and_parts _ _ p.1.2).0))
      | inr ne ↦ (h.exact k i).1 (omega (arith, p.0), p.1)
    ],
  );
}

-- it is one, and its number is added to the list of the statement in whose block it stands
pub lists_more : (rows : List Row) (n : ℕ) (r : Row) (old now : List (Vec ℕ Global)) (v : Vec ℕ Global) → slice_get rows n ≡ Some r → is_if_feature r ≡ true → r.scope < length old → now ≡ set old r.scope v → v.items ≡ numbers_at old r.scope ++ n ∷ [] → length now ≡ length old → ListsUpTo rows n old → ListsUpTo rows (n + 1) now
lists_more rows n r old now v at is within same pushed len h = record { each = len ∙ h.each; exact = λ k i. (to k i, from k i) }
  where
    views : map (λ (v : Vec ℕ Global). v.items) now ≡ set (map (λ (v : Vec ℕ Global). v.items) old) r.scope (numbers_at old r.scope ++ n ∷ [])
    views = ap (map (λ (v : Vec ℕ Global). v.items)) same ∙ map-set (λ (v : Vec ℕ Global). v.items) old r.scope v ∙ ap (set (map (λ (v : Vec ℕ Global). v.items) old) r.scope) pushed

    room : r.scope < length (map (λ (v : Vec ℕ Global). v.items) old)
    room = omega (arith, within, length-map old (λ (v : Vec ℕ Global). v.items))

    here : numbers_at now r.scope ≡ numbers_at old r.scope ++ n ∷ []
    here = ap (λ xs. get_or xs r.scope []) views ∙ get_or-set_same (map (λ (v : Vec ℕ Global). v.items) old) r.scope (numbers_at old r.scope ++ n ∷ []) [] room

    other : (k : ℕ) → k ≢ r.scope → numbers_at now k ≡ numbers_at old k
    other k ne = ap (λ xs. get_or xs k []) views ∙ get_or-set_other (map (λ (v : Vec ℕ Global). v.items) old) r.scope k (numbers_at old r.scope ++ n ∷ []) [] ne

    same_row : (i k : ℕ) (p : IsIfFeatureAt rows k i) → i ≡ n → r ≡ p.0
    same_row i k p f = same_Some r p.0 (sym at ∙ ap (slice_get rows) (sym f) ∙ p.1)

    to : (k i : ℕ) → Contains (numbers_at now k) i → (i < n + 1) × IsIfFeatureAt rows k i
    to k i c = elim (cases_eq k r.scope) [
      | inl e ↦ elim (Contains-append_cases (numbers_at old r.scope) (n ∷ []) i (subst (λ xs. Contains xs i) (ap (numbers_at now) e ∙ here) c)) [
        | inl a ↦ let p = (h.exact r.scope i).0 a in (omega (arith, p.0), subst (λ j. IsIfFeatureAt rows j i) (sym e) p.1)
        | inr b ↦ let f : n ≡ i = contains_one n i b in (omega arith, (r, ap (slice_get rows) (sym f) ∙ at, ap (λ b. b && (r.scope == k)) is ∙ eq-eqb r.scope k (sym e)))
      ]
      | inr ne ↦ let p = (h.exact k i).0 (subst (λ xs. Contains xs i) (other k ne) c) in (omega (arith, p.0), p.1)
    ]

    from : (k i : ℕ) → (i < n + 1) × IsIfFeatureAt rows k i → Contains (numbers_at now k) i
    from k i p = elim (cases_eq k r.scope) [
      | inl e ↦ subst (λ xs. Contains xs i) (sym (ap (numbers_at now) e ∙ here)) (elim (cases_eq i n) [
        | inl f ↦ Contains-append_right (numbers_at old r.scope) (n ∷ []) i (0, omega arith, sym f)
        | inr nf ↦ Contains-append_left (numbers_at old r.scope) (n ∷ []) i ((h.exact r.scope i).1 (omega (arith, p.0), subst (λ j. IsIfFeatureAt rows j i) e p.1))
      ])
      | inr ne ↦ subst (λ xs. Contains xs i) (sym (other k ne)) ((h.exact k i).1 (
        elim (cases_eq i n) [
          | inl f ↦ absurd (ne (sym (eqb-true r.scope k (ap (λ (q : Row). q.scope == k) (same_row i k p.1 f) ∙ (and_parts _ _ p.1.2).1))))
          | inr nf ↦ omega (arith, p.0)
        ],
        p.1,
      ))
    ]

-- all statements are listed
pub lists_end : (rows : List Row) (n : ℕ) (lists : List (Vec ℕ Global)) → length rows ≤ n → ListsUpTo rows n lists → AreLists rows lists
lists_end rows n lists e h = record {
  each = h.each;
  exact = λ k i. (λ c. ((h.exact k i).0 c).1, λ p. (h.exact k i).1 (let l : i < length rows = slice_get_within rows i p.0 p.1 in omega arith, p));
}

-- an item of a list, seen through a view
pub mapped_at : {A B : Type 0} (f : A → B) (xs : List A) (ys : List B) (n : ℕ) (x : A) → map f xs ≡ ys → n < length xs → x ≡ get_or xs n x → slice_get ys n ≡ Some (f x)
mapped_at f xs ys n x e h is = ap (λ l. slice_get l n) (sym e) ∙ slice_get-map f xs n ∙ ap (option_map f) (slice_get_read xs (length xs) n x refl h is)

pub mapped_len : {A B : Type 0} (f : A → B) (xs : List A) (ys : List B) → map f xs ≡ ys → length xs ≡ length ys
mapped_len f xs ys e = sym (length-map xs f) ∙ ap length e

pub numbers_read : (lists : List (Vec ℕ Global)) (k : ℕ) (v : Vec ℕ Global) → k < length lists → v ≡ get_or lists k v → v.items ≡ numbers_at lists k
numbers_read lists k v h e = ap (λ (x : Vec ℕ Global). x.items) e ∙ sym (get_or-map (λ (x : Vec ℕ Global). x.items) lists k v [] h)
