-- The members that a loop over the numbers of candidates gathers.
use Rattle.std.proofs.Common.{◌≡◌, ◌↔◌, ℕ, Bool, true, false, IsTrue, List, [], None, Some, refl, sym, ◌∙◌, ap, nat_eq, eqb-true, eq-eqb}
use Rattle.std.specs.List.{slice_get, list_any}
use Rattle.std.specs.Option.{option_map, unwrap_or}
use Rattle.yv_values.specs.Identities.{Id, id_of}
use Rattle.yv_type_identities.specs.declared.candidates.Candidate.{Candidate}
use Rattle.yv_type_identities.proofs.RowLoop.{found, finds}

module _ (cs : List Candidate) where
  -- whether there is a candidate of this number
  abbrev pub is_one : ℕ → ℕ → Bool
  is_one i number = unwrap_or (option_map (λ (c : Candidate). true) (slice_get cs number)) false

  -- its identity
  abbrev pub id_in : ℕ → Id
  id_in number = unwrap_or (option_map (λ (c : Candidate). id_of c.member) (slice_get cs number)) (record { module_name = []; name = [] })

  pub one_is : (i number : ℕ) (c : Candidate) → slice_get cs number ≡ Some c → is_one i number ≡ true
  one_is i number c at = ap (λ o. unwrap_or (option_map (λ (d : Candidate). true) o) false) at

  pub none_is : (i number : ℕ) → slice_get cs number ≡ None → is_one i number ≡ false
  none_is i number at = ap (λ o. unwrap_or (option_map (λ (d : Candidate). true) o) false) at

  pub id_is : (number : ℕ) (c : Candidate) → slice_get cs number ≡ Some c → id_in number ≡ id_of c.member
  id_is number c at = ap (λ o. unwrap_or (option_map (λ (d : Candidate). id_of d.member) o) (record { module_name = []; name = [] })) at

  -- the identities of the numbered candidates are those of the chosen ones
  pub by_number : (numbers : List ℕ) (test : Candidate → Bool) (id : Id)
      → ((k : ℕ) → IsTrue (list_any (nat_eq k) numbers) ↔ ((c : Candidate) × (slice_get cs k ≡ Some c) × (test c ≡ true)))
      → ((i : ℕ) × (number : ℕ) × (slice_get numbers i ≡ Some number) × (is_one i number ≡ true) × (id_in number ≡ id))
      ↔ ((k : ℕ) × (c : Candidate) × (slice_get cs k ≡ Some c) × (test c ≡ true) × (id_of c.member ≡ id))
  by_number numbers test id chosen = (
    λ h.
        let c = (chosen h.1).0 (finds (nat_eq h.1) numbers h.0 h.1 h.2 (eq-eqb h.1 h.1 refl)) in
        (h.1, c.0, c.1, c.2, sym (id_is h.1 c.0 c.1) ∙ h.4),
    λ h.
        let f = found (nat_eq h.0) numbers ((chosen h.0).1 (h.1, h.2, h.3)) in
        let same : f.1 ≡ h.0 = sym (eqb-true h.0 f.1 f.3) in
        let at : slice_get cs f.1 ≡ Some h.1 = ap (slice_get cs) same ∙ h.2 in
        (f.0, f.1, f.2, one_is f.0 f.1 h.1 at, id_is f.1 h.1 at ∙ h.4),
  )
