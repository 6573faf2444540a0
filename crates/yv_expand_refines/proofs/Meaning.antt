-- What the refines of copies mean, when copies and refine targets are added.
use Rattle.std.proofs.Common.{◌≡◌, ℕ, ◌<◌, zero, suc, List, [], ◌∷◌, ◌++◌, length, map, Some, Vec, Global, refl, sym, ◌∙◌, ap, arith}
use Rattle.std.specs.List.{slice_get}
use Rattle.std.proofs.lemmas.List.{append_assoc, append-nil}
use Rattle.yv_expand_refines.specs.Targets.{targets_at, meant_at, meaning_of, meant_from}
use Rattle.yv_expand_refines.specs.declared.targets.RefineTarget.{RefineTarget}
use Rattle.yv_expand_refines.specs.declared.targets.RefinedUses.{RefinedUses}

pub meant_from-append : (refine_targets : List (Vec RefineTarget Global)) (us vs : List RefinedUses) → meant_from refine_targets (us ++ vs) ≡ meant_from refine_targets us ++ meant_from refine_targets vs
meant_from-append refine_targets [] vs = refl
meant_from-append refine_targets (u ∷ us) vs =
    ap (λ l. meant_at refine_targets u ++ l) (meant_from-append refine_targets us vs) ∙ sym (append_assoc (meant_at refine_targets u) (meant_from refine_targets us) (meant_from refine_targets vs))

-- one copy more
pub meant_from_more : (refine_targets : List (Vec RefineTarget Global)) (us : List RefinedUses) (u : RefinedUses) → meant_from refine_targets (us ++ u ∷ []) ≡ meant_from refine_targets us ++ meant_at refine_targets u
meant_from_more refine_targets us u = meant_from-append refine_targets us (u ∷ []) ∙ ap (λ l. meant_from refine_targets us ++ l) (append-nil (meant_at refine_targets u))

-- refine targets of a place stay when others come behind
pub aims_at_left : (refine_targets : List (Vec RefineTarget Global)) (more : Vec RefineTarget Global) (place : ℕ) → place < length refine_targets → targets_at (refine_targets ++ more ∷ []) place ≡ targets_at refine_targets place
aims_at_left [] more place lt = absurd (omega (arith, lt))
aims_at_left (x ∷ xs) more zero lt = refl
aims_at_left (x ∷ xs) more (suc place) lt = aims_at_left xs more place (omega (arith, lt))

-- and so does what copies mean
pub meant_from_aims : (refine_targets : List (Vec RefineTarget Global)) (more : Vec RefineTarget Global) (us : List RefinedUses) → ((k : ℕ) (u : RefinedUses) → slice_get us k ≡ Some u → u.refine_targets < length refine_targets)
    → meant_from (refine_targets ++ more ∷ []) us ≡ meant_from refine_targets us
meant_from_aims refine_targets more [] h = refl
meant_from_aims refine_targets more (u ∷ us) h =
    ap (λ l. map (meaning_of u.item u.targets.items) l ++ meant_from (refine_targets ++ more ∷ []) us) (aims_at_left refine_targets more u.refine_targets (h zero u refl))
    ∙ ap (λ l. meant_at refine_targets u ++ l) (meant_from_aims refine_targets more us (λ k v e. h (suc k) v e))
