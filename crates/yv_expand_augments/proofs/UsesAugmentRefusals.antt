-- The refusals of the augments of each uses.
use Rattle.std.proofs.Common.{◌≡◌, ℕ, ◌+◌, ◌<◌, ◌≤◌, ◌==◌, Bool, true, if◌then◌else◌, inl, inr, List, length, drop, get_or, refl, sym, ◌∙◌, ap, subst, arith, eq-eqb, Option, Some, None}
use Rattle.std.specs.Option.{option_or}
use Rattle.std.specs.List.{slice_get}
use Rattle.std.proofs.lemmas.Bool.{cases_eq, ne_eqb}
use Rattle.std.proofs.lemmas.Option.{same_Some, slice_get_within}
use Rattle.yv_text_statement.specs.Order.{IsLeast}
use Rattle.yv_text_statement.specs.declared.refusal.Refusal.{Refusal}
use Rattle.yv_text_statement.proofs.Least.{least_same}
use Rattle.yv_expand_rounds.specs.Turns.{State}
use Rattle.yv_expand_augments.specs.Augmentation.{placed_from}
use Rattle.yv_expand_uses.specs.Spots.{LayoutView, Whole, labels_of}
use Rattle.yv_expand_augments.specs.MissingTargets.{MissesAt, MissesOf}
use Rattle.yv_expand_uses.specs.declared.spot.Spot.{Spot}

here_told : (k i : ℕ) (o was : Option Refusal) → was ≡ None → (k == i) ≡ true → (if k == i then option_or o was else was) ≡ o
here_told k i o was none same =
    ap (λ (b : Bool). if b then option_or o was else was) same ∙ ap (option_or o) none ∙ or_none o where
      or_none : (x : Option Refusal) → option_or x None ≡ x
      or_none None = refl
      or_none (Some r) = refl

module _ (w : Whole) (l : LayoutView) where
  -- past the last item nothing is refused
  pub missing_past : (end i : ℕ) → length l.spots ≤ i → IsLeast (MissesAt w l end i) None
  missing_past end i past = λ f h. (let lt = slice_get_within l.spots i h.0 h.1 in absurd (omega (arith, lt, past)))

  -- what is refused of one item
  pub missing_here : (end i left : ℕ) (s : Spot) (o : Option Refusal) → left ≡ i + 1 → slice_get l.spots i ≡ Some s
      → IsLeast (MissesOf w (labels_of l.spots) s end (placed_from w (labels_of l.spots) l.copies left (drop left l.spots))) o → IsLeast (MissesAt w l end i) o
  missing_here end i left s o next at h =
      let after : ℕ → State = λ n. placed_from w (labels_of l.spots) l.copies n (drop n l.spots) in
      let here : IsLeast (MissesOf w (labels_of l.spots) s end (after (i + 1))) o =
      subst (λ (n : ℕ). IsLeast (MissesOf w (labels_of l.spots) s end (placed_from w (labels_of l.spots) l.copies n (drop n l.spots))) o) next h in
      least_same (MissesOf w (labels_of l.spots) s end (placed_from w (labels_of l.spots) l.copies (i + 1) (drop (i + 1) l.spots))) (MissesAt w l end i) o
      (λ f p. (s, at, p))
      (λ f p. subst (λ (x : Spot). MissesOf w (labels_of l.spots) x end (placed_from w (labels_of l.spots) l.copies (i + 1) (drop (i + 1) l.spots)) f)
      (same_Some p.0 s (sym p.1 ∙ at)) p.2)
      here

  -- one item more is told
  pub missing_more : (ends : List ℕ) (i left : ℕ) (o : Option Refusal) (old new : ℕ → Option Refusal) → left ≡ i + 1 → old i ≡ None
      → ((k : ℕ) → new k ≡ (if k == i then option_or o (old k) else old k))
      → IsLeast (MissesAt w l (get_or ends i 0) i) o → ((k : ℕ) → left ≤ k → IsLeast (MissesAt w l (get_or ends k 0) k) (old k))
      → (k : ℕ) → i ≤ k → IsLeast (MissesAt w l (get_or ends k 0) k) (new k)
  missing_more ends i left o old new next fresh is here before k le = elim (cases_eq k i) [
    | inl e ↦
        let same : new k ≡ o = is k ∙ here_told k i o (old k) (ap old e ∙ fresh) (eq-eqb k i e) in
        subst (IsLeast (MissesAt w l (get_or ends k 0) k)) (sym same) (subst (λ (n : ℕ). IsLeast (MissesAt w l (get_or ends n 0) n) o) (sym e) here)
    | inr ne ↦
        let same : new k ≡ old k = is k ∙ ap (λ (b : Bool). if b then option_or o (old k) else old k) (ne_eqb k i ne) in
        subst (IsLeast (MissesAt w l (get_or ends k 0) k)) (sym same) (before k (omega (arith, le, ne, next)))
  ]

  -- nothing is told of those before
  pub missing_before : (i left : ℕ) (o : Option Refusal) (old new : ℕ → Option Refusal) → left ≡ i + 1
      → ((k : ℕ) → new k ≡ (if k == i then option_or o (old k) else old k)) → ((k : ℕ) → k < left → old k ≡ None) → (k : ℕ) → k < i → new k ≡ None
  missing_before i left o old new next is before k lt =
      is k ∙ ap (λ (b : Bool). if b then option_or o (old k) else old k) (ne_eqb k i (λ e. omega (arith, e, lt))) ∙ before k (omega (arith, lt, next))

  -- the ends that are told are those of the items
  pub missing_same : (first second i : ℕ) (o : Option Refusal) → (i < length l.spots → first ≡ second) → IsLeast (MissesAt w l first i) o → IsLeast (MissesAt w l second i) o
  missing_same first second i o same h =
      least_same (MissesAt w l first i) (MissesAt w l second i) o
      (λ f p. subst (λ (n : ℕ). MissesAt w l n i f) (same (slice_get_within l.spots i p.0 p.1)) p)
      (λ f p. subst (λ (n : ℕ). MissesAt w l n i f) (sym (same (slice_get_within l.spots i p.0 p.1))) p)
      h
