-- The type statement at a place.
use Rattle.std.proofs.Common.{◌≡◌, ℕ, ◌+◌, ◌&&◌, ◌==◌, inl, inr, suc, Bool, true, false, cond, List, [], ◌∷◌, Some, refl, sym, ◌∙◌, ap, arith, codes}
use Rattle.std.specs.List.{slice_get, position_from}
use Rattle.std.proofs.lemmas.Bool.{cases_Bool}
use Rattle.std.proofs.lemmas.Option.{same_Some}
use Rattle.yv_link_scopes.specs.Rows.{Row}
use Rattle.yv_link_definitions.specs.Refers.{is_type}
use Rattle.yv_link_definitions.specs.References.{is_at, number_at}
use Rattle.yv_type_chains.specs.Types.{IsTypeAt}

-- what stands at the place that is found
found_at : {X : Type 0} (p : X → Bool) (k d : ℕ) (xs : List X) → position_from p k xs ≡ Some d → (x : X) × (i : ℕ) × (d ≡ k + i) × (slice_get xs i ≡ Some x) × (p x ≡ true)
found_at p k d [] h = cc
found_at {X} p k d (x ∷ xs) h = elim (cases_Bool (p x)) [
  | inl t ↦ let e : Some k ≡ Some d = ap (λ b. cond b (Some k) (position_from p (k + 1) xs)) (sym t) ∙ h in (x, 0, omega (arith, same_Some k d e), refl, t)
  | inr f ↦
      let e : position_from p (k + 1) xs ≡ Some d = ap (λ b. cond b (Some k) (position_from p (k + 1) xs)) (sym f) ∙ h in
      let r = found_at p (k + 1) d xs e in
      (r.0, suc r.1, omega (arith, r.2), r.3, r.4)
]

front : (a b : Bool) → (a && b) ≡ true → a ≡ true
front true b h = refl
front false b h = cc

-- it is a type
pub type_there : (rows : List Row) (file offset k : ℕ) → number_at rows (codes "type") file offset ≡ Some k → IsTypeAt rows k
type_there rows file offset k h =
    let p = found_at (is_at (codes "type") file offset) 0 k rows h in
    let r : Row = p.0 in
    let e : p.1 ≡ k = omega (arith, p.2) in
    (r, ap (slice_get rows) (sym e) ∙ p.3, front (is_type r) ((r.file == file) && (r.head.offset == offset)) p.4)
