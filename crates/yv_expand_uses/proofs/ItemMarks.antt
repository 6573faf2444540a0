-- Marks of items, one by one.
use Rattle.std.proofs.Common.{◌≡◌, ℕ, ◌+◌, ◌<◌, ◌&&◌, Bool, false, List, [], ◌∷◌, ◌++◌, length, refl, sym, ◌∙◌, ap, subst, arith, Option, Some, None, below_more, length-append}
use Rattle.std.specs.List.{slice_get}
use Rattle.std.proofs.lemmas.List.{get_or-append-add}
use Rattle.std.proofs.lemmas.Option.{same_Some, slice_get_within}
use Rattle.std.proofs.Math.ListN.{get_or-append}
use Rattle.yv_link_scopes.specs.Rows.{Row}
use Rattle.yv_expand.specs.ItemLimit.{ParentsComeFirst}
use Rattle.yv_expand_statements.specs.Origin.{number_of}
use Rattle.yv_expand.specs.Tree.{Item}
use Rattle.yv_base_graph.specs.Marks.{is_marked}
use Rattle.yv_expand_uses.specs.On.{AreOn, above_on, augment_on, uses_on}
use Rattle.yv_expand_uses.specs.declared.spot.Spot.{Spot}

module _ (rows : List Row) (spots : List Spot) (items : List Item) (statements own : ℕ → Bool) where
  abbrev pub Told : List Bool → ℕ → Type 0
  Told marks i = (x : Item) → slice_get items i ≡ Some x
      → is_marked marks i ≡ (own i && (above_on spots marks x.parent && augment_on rows statements (slice_get rows (number_of x.origin))))

  -- the marks of the first items
  pub record Asking (i : ℕ) (marks : List Bool) : Type 0 where
    pub each : length marks ≡ i
    pub told : (k : ℕ) → k < i → Told marks k

  -- one mark more changes none before
  same_above : (marks : List Bool) (m : Bool) (parent : Option ℕ) → ((p : ℕ) → parent ≡ Some p → p < length marks) → above_on spots (marks ++ m ∷ []) parent ≡ above_on spots marks parent
  same_above marks m None within = refl
  same_above marks m (Some p) within = ap (uses_on (slice_get spots p)) (get_or-append marks (m ∷ []) false p (within p refl))

  asking_more : ParentsComeFirst items → (i : ℕ) (x : Item) (m : Bool) (old new : List Bool) → slice_get items i ≡ Some x
      → m ≡ (own i && (above_on spots old x.parent && augment_on rows statements (slice_get rows (number_of x.origin))))
      → new ≡ old ++ m ∷ [] → Asking i old → Asking (i + 1) new
  asking_more parents i x m old new at is now before = record {
    each = (let long : length (old ++ m ∷ []) ≡ length old + 1 = length-append old (m ∷ []) in omega (arith, ap length now, long, before.each));
    told = subst (λ (l : List Bool). (k : ℕ) → k < i + 1 → Told l k) (sym now) (below_more (Told (old ++ m ∷ [])) i earlier here);
  }
    where
      own_at : ℕ → Item → Bool → Bool
      own_at k y above = own k && (above && augment_on rows statements (slice_get rows (number_of y.origin)))

      earlier : (k : ℕ) → k < i → Told (old ++ m ∷ []) k
      earlier k lt y there =
          get_or-append old (m ∷ []) false k (omega (arith, lt, before.each)) ∙ before.told k lt y there
          ∙ ap (own_at k y) (sym (same_above old m y.parent (λ p e. (let l = parents k p y there e in omega (arith, l, lt, before.each)))))

      here : Told (old ++ m ∷ []) i
      here y there =
          let same : x ≡ y = same_Some x y (sym at ∙ there) in
          let place : i ≡ length old + 0 = omega (arith, before.each) in
          ap (is_marked (old ++ m ∷ [])) place ∙ get_or-append-add old (m ∷ []) 0 false ∙ is
          ∙ ap (λ (z : Item). own_at i z (above_on spots old z.parent)) same
          ∙ ap (own_at i y) (sym (same_above old m y.parent (λ p e. (let l = parents i p y there e in omega (arith, l, before.each)))))

  pub asking_step : ParentsComeFirst items → (i : ℕ) (x : Item) (m mine : Bool) (old here new : List Bool) → slice_get items i ≡ Some x → mine ≡ own i → here ≡ old
      → m ≡ (mine && (above_on spots here x.parent && augment_on rows statements (slice_get rows (number_of x.origin)))) → new ≡ old ++ m ∷ [] → Asking i old → Asking (i + 1) new
  asking_step parents i x m mine old here new at own_is here_is is now before =
      asking_more parents i x m old new at
      (is ∙ ap (λ (b : Bool). b && (above_on spots here x.parent && augment_on rows statements (slice_get rows (number_of x.origin)))) own_is
      ∙ ap (λ (l : List Bool). own i && (above_on spots l x.parent && augment_on rows statements (slice_get rows (number_of x.origin)))) here_is) now before

  pub asking_all : (i : ℕ) (marks : List Bool) → i ≡ length items → Asking i marks → AreOn rows spots items statements own marks
  asking_all i marks all a = record {
    each = a.each ∙ all;
    at = λ k x there. a.told k (let l = slice_get_within items k x there in omega (arith, l, all)) x there;
  }
