-- The numbers of steps.
use Rattle.std.proofs.Common.{◌≡◌, ℕ, ◌+◌, ◌≤◌, ◌<◌, ◌↔◌, zero, suc, List, [], ◌∷◌, ◌++◌, length, codes, Option, None, Some, refl, sym, ◌∙◌, ap, arith, length-append}
use Rattle.std.specs.List.{slice_get}
use Rattle.std.specs.Option.{option_map, option_and_then}
use Rattle.std.proofs.lemmas.List.{length-map}
use Rattle.std.proofs.lemmas.Option.{same_Some, slice_get-map}
use Rattle.yv_link_scopes.specs.Files.{Briefs}
use Rattle.yv_link_scopes.specs.Names.{prefix_of, local_of}
use Rattle.yv_link_scopes.specs.Rows.{Row}
use Rattle.yv_link_scopes.specs.Scopes.{module_of}
use Rattle.yv_expand_statements.specs.Names.{node_name}
use Rattle.yv_expand_paths.specs.InnerNameNumbers.{own_names, number_of, number_at, qualified_name}
use Rattle.yv_expand_statements.specs.Paths.{module_file_with, module_file_of}
use Rattle.yv_expand_paths.specs.InnerSteps.{step_with, step_of, step_number}
use Rattle.yv_expand_paths.proofs.NamePlaces.{place_hit, place_there, place_front, one_name}

pub told_apart : (h n k m : ℕ) → n < 4294967296 → m < 4294967296 → qualified_name h n ≡ qualified_name k m → (h ≡ k) × (n ≡ m)
told_apart h n k m a b e = (omega (arith, a, b, e), omega (arith, a, b, e))

pub number_within : (rows : List Row) (name : List ℕ) (n : ℕ) → number_of rows name ≡ Some n → n < length rows + 2
number_within rows name n h =
    let others : List (List ℕ) = codes "input" ∷ codes "output" ∷ [] in
    omega (arith, (place_hit (own_names rows ++ others) name n h).0, length-append (own_names rows) others, length-map rows (λ r. node_name r.head))

behind : (names others : List (List ℕ)) (i : ℕ) → slice_get (names ++ others) (length names + i) ≡ slice_get others i
behind [] others i = ap (slice_get others) (let e : 0 + i ≡ i = omega arith in e)
behind (n ∷ names) others i = ap (slice_get (n ∷ names ++ others)) (let e : suc (length names) + i ≡ suc (length names + i) = omega arith in e) ∙ behind names others i

pub input_there : (rows : List Row) → (n : ℕ) × (number_of rows (codes "input") ≡ Some n)
input_there rows = place_there _ (codes "input") (length (own_names rows) + 0) (behind (own_names rows) (codes "input" ∷ codes "output" ∷ []) 0)

pub output_there : (rows : List Row) → (n : ℕ) × (number_of rows (codes "output") ≡ Some n)
output_there rows = place_there _ (codes "output") (length (own_names rows) + 1) (behind (own_names rows) (codes "input" ∷ codes "output" ∷ []) 1)

pub number_there : (rows : List Row) (k : ℕ) → k < length rows → (n : ℕ) × (number_at rows k ≡ Some n)
number_there rows k l = by (slice_get rows k) refl
  where
    past : {A : Type 0} (xs : List A) (i : ℕ) → slice_get xs i ≡ None → i < length xs → ⊥
    past [] i e h = omega (arith, h)
    past (x ∷ xs) zero e h = cc
    past (x ∷ xs) (suc i) e h = past xs i e (omega (arith, h))

    by : (o : Option Row) → slice_get rows k ≡ o → (n : ℕ) × (option_and_then (λ r. number_of rows (node_name r.head)) o ≡ Some n)
    by None e = absurd (past rows k e l)
    by (Some r) e =
        let others : List (List ℕ) = codes "input" ∷ codes "output" ∷ [] in
        let own = place_there (own_names rows) (node_name r.head) k (slice_get-map (λ r. node_name r.head) rows k ∙ ap (option_map (λ r. node_name r.head)) e) in
        (own.0, place_front (own_names rows) others (node_name r.head) own.0 own.1)

module _ (files : Briefs) (rows : List Row) (file own module_file : ℕ) (few : length rows ≤ 4294967293) where
  small : (name : List ℕ) (n : ℕ) → number_of rows name ≡ Some n → n < 4294967296
  small name n h = omega (arith, number_within rows name n h, few)

  -- the number of a step whose name has this number
  by_number : (p : Option (List ℕ)) (m n : ℕ) → m < 4294967296 → n < 4294967296 → (option_map (step_number own) (step_with files rows file p m) ≡ Some (qualified_name module_file n)) ↔ ((module_file_with files rows file own p ≡ Some module_file) × (m ≡ n))
  by_number None m n a b = (
    λ e. let t = told_apart own m module_file n a b (same_Some (qualified_name own m) (qualified_name module_file n) e) in (ap Some t.0, t.1),
    λ h. ap (λ k. Some (qualified_name k m)) (same_Some own module_file h.0) ∙ ap (λ k. Some (qualified_name module_file k)) h.1,
  )
  by_number (Some p) m n a b = by (module_of files rows file p)
    where
      by : (o : Option ℕ) → (option_map (step_number own) (option_map (λ k. record { module_file = Some k; name = m }) o) ≡ Some (qualified_name module_file n)) ↔ ((o ≡ Some module_file) × (m ≡ n))
      by None = (λ e. absurd (let bad : None ≡ Some (qualified_name module_file n) = e in cc), λ h. absurd (let bad : None ≡ Some module_file = h.0 in cc))
      by (Some k) = (
        λ e. let t = told_apart k m module_file n a b (same_Some (qualified_name k m) (qualified_name module_file n) e) in (ap Some t.0, t.1),
        λ h. ap (λ j. Some (qualified_name j m)) (same_Some k module_file h.0) ∙ ap (λ j. Some (qualified_name module_file j)) h.1,
      )

  pub step_is : (text name : List ℕ) (n : ℕ) → number_of rows name ≡ Some n → (option_map (step_number own) (step_of files rows file text) ≡ Some (qualified_name module_file n)) ↔ ((module_file_of files rows file own text ≡ Some module_file) × (local_of text ≡ name))
  step_is text name n named = by (number_of rows (local_of text)) refl
    where
      by : (o : Option ℕ) → number_of rows (local_of text) ≡ o → (option_map (step_number own) (option_and_then (step_with files rows file (prefix_of text)) o) ≡ Some (qualified_name module_file n)) ↔ ((module_file_of files rows file own text ≡ Some module_file) × (local_of text ≡ name))
      by None e = (
        λ f. absurd (let bad : None ≡ Some (qualified_name module_file n) = f in cc),
        λ h. absurd (let bad : None ≡ Some n = sym e ∙ ap (number_of rows) h.1 ∙ named in cc),
      )
      by (Some m) e =
          let both = by_number (prefix_of text) m n (small (local_of text) m e) (small name n named) in (
            λ f. let t = both.0 f in (t.0, one_name _ (local_of text) name n (e ∙ ap Some t.1) named),
            λ h. both.1 (h.0, same_Some m n (sym e ∙ ap (number_of rows) h.1 ∙ named)),
          )
