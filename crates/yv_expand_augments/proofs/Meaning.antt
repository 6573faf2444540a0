-- What refines mean, item by item.
use Rattle.std.proofs.Common.{◌≡◌, ℕ, ◌+◌, ◌<◌, List, [], ◌∷◌, ◌++◌, length, drop, refl, sym, ◌∙◌, ap, arith, Some}
use Rattle.std.specs.List.{slice_get}
use Rattle.yv_expand_rounds.specs.declared.label.Label.{Label}
use Rattle.yv_expand_refines.specs.Targets.{RefineMeaning}
use Rattle.yv_expand_augments.specs.Augmentation.{placed_from}
use Rattle.yv_expand_uses.specs.RefineTargets.{refined_at}
use Rattle.yv_expand_augments.specs.RefineMeanings.{refined_from}
use Rattle.yv_expand_uses.specs.Spots.{Whole}
use Rattle.yv_expand_uses.specs.declared.spot.Spot.{Spot}
use Rattle.yv_expand_uses.proofs.StatementLists.{rest_of}

module _ (w : Whole) (labels : List Label) (copies : ℕ) where
  -- one item more
  pub refined_more : (end : ℕ → ℕ) (n left : ℕ) (s : Spot) (spots : List Spot) (e : ℕ) (old new : List RefineMeaning) → left ≡ n + 1 → slice_get spots n ≡ Some s → e ≡ end n
      → new ≡ old ++ refined_at w labels s n e (placed_from w labels copies left (drop left spots)) → old ≡ refined_from w labels copies end left (drop left spots)
      → new ≡ refined_from w labels copies end n (drop n spots)
  refined_more end n left s spots e old new next at is now before =
      now
      ∙ ap (λ (m : ℕ). old ++ refined_at w labels s n m (placed_from w labels copies left (drop left spots))) is
      ∙ ap (λ (l : List RefineMeaning). l ++ refined_at w labels s n (end n) (placed_from w labels copies left (drop left spots))) before
      ∙ ap (λ (m : ℕ). refined_from w labels copies end m (drop m spots) ++ refined_at w labels s n (end n) (placed_from w labels copies m (drop m spots))) next
      ∙ ap (refined_from w labels copies end n) (sym (rest_of spots n s at))

  -- ends that are the same tell the same
  pub refined_same : (first second : ℕ → ℕ) (i : ℕ) (spots : List Spot) → ((k : ℕ) → k < i + length spots → first k ≡ second k)
      → refined_from w labels copies first i spots ≡ refined_from w labels copies second i spots
  refined_same first second i [] same = refl
  refined_same first second i (s ∷ others) same =
      ap (λ (l : List RefineMeaning). l ++ refined_at w labels s i (first i) (placed_from w labels copies (i + 1) others))
      (refined_same first second (i + 1) others (λ k lt. same k (omega (arith, lt))))
      ∙ ap (λ (e : ℕ). refined_from w labels copies second (i + 1) others ++ refined_at w labels s i e (placed_from w labels copies (i + 1) others))
      (same i (omega arith))
