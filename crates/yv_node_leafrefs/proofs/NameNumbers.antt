-- Names of nodes as numbers.
use Rattle.std.proofs.Common.{◌≡◌, ℕ, ◌+◌, inl, inr, Bool, true, false, cond, List, [], ◌∷◌, ◌++◌, length, Option, None, Some, refl, sym, ◌∙◌, ap, arith}
use Rattle.std.specs.Ordering.{nat_cmp}
use Rattle.std.specs.Cmp.Lexicographic.{slice_cmp}
use Rattle.std.specs.Str.{bytes_eq}
use Rattle.std.specs.List.{slice_get, slice_index_or}
use Rattle.std.specs.BTreeMap.{BTreeMap, UpdatesBy}
use Rattle.std.proofs.lemmas.Bool.{cases_lt}
use Rattle.std.proofs.lemmas.List.{get_or_append_left}
use Rattle.std.proofs.lemmas.Map.Text.{is_eq-slice_cmp}
use Rattle.std.proofs.lemmas.Option.{same_Some}
use Rattle.std.proofs.lemmas.Slice.Eq.{bytes_eq-Decides}
use denote.Ref.{Bor}
use Rattle.yv_nodes.specs.Rows.{Row}
use Rattle.yv_node_leafrefs.specs.InnerNames.{NameNumbers, lookup_in, first_some, keep_first, AreNumbers}
use Rattle.yv_node_leafrefs.proofs.AncestorPlaces.{last_of}

chosen : (b : Bool) (old : Option ℕ) (number : ℕ) → (b ≡ true → old ≡ None) → cond b (Some number) old ≡ first_some old (cond b (Some number) None)
chosen true old number h = ap (λ o. first_some o (Some number)) (sym (h refl))
chosen false None number h = refl
chosen false (Some x) number h = refl

-- a name that is new
pub kept_new : (old new : BTreeMap (Bor (List ℕ)) ℕ) (name : Bor (List ℕ)) (number : ℕ) → lookup_in old name.now ≡ None → UpdatesBy (λ x y. slice_cmp nat_cmp x.now y.now) (λ y. slice_cmp nat_cmp name.now y.now) old new (Some number)
    → (n : List ℕ) → lookup_in new n ≡ keep_first (lookup_in old) name.now number n
kept_new old new name number none u n =
    u.0 (record { ref_ptr = (0, 0); now = n })
    ∙ ap (λ b. cond b (Some number) (lookup_in old n)) (is_eq-slice_cmp name.now n)
    ∙ chosen (bytes_eq name.now n) (lookup_in old n) number (λ h. ap (lookup_in old) (sym ((bytes_eq-Decides name.now n).0 h)) ∙ none)

-- one more number
pub numbers_next : (rows : List Row) (i : ℕ) (r : Row) → slice_get rows i ≡ Some r → (old new : NameNumbers) → ((name : List ℕ) (k : ℕ) → old name ≡ Some k → new name ≡ Some k) → (numbers more : List ℕ) (given : ℕ)
    → length numbers ≡ i → AreNumbers rows i old numbers → new r.label.defined.name ≡ Some given → more ≡ numbers ++ given ∷ [] → AreNumbers rows (i + 1) new more
numbers_next rows i r at old new stays numbers more given each before is put c q l there = elim (cases_lt c i) [
  | inl less ↦
      stays q.label.defined.name (slice_index_or numbers c 0) (before c q less there)
      ∙ ap Some (sym (ap (λ xs. slice_index_or xs c 0) put ∙ get_or_append_left numbers (given ∷ []) 0 c (omega (arith, less, each))))
  | inr up ↦
      let last : c ≡ i = omega (arith, up, l) in
      let row_is : q ≡ r = same_Some q r (sym there ∙ ap (slice_get rows) last ∙ at) in
      let got : slice_index_or more c 0 ≡ given = ap (λ xs. slice_index_or xs c 0) put ∙ ap (λ k. slice_index_or (numbers ++ given ∷ []) k 0) (last ∙ sym each) ∙ last_of numbers given 0 in
      ap (λ (x : Row). new x.label.defined.name) row_is ∙ is ∙ ap Some (sym got)
]
