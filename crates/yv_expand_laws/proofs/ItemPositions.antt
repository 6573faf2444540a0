-- An item is laid at the top, below a node, or in what an earlier copy of an augment gives.
use Rattle.std.proofs.Common.{◌⊎◌, inl, inr, ◌≡◌, ℕ, zero, suc, ◌+◌, ◌<◌, ◌≤◌, Bool, true, false, if◌then◌else◌, List, [], ◌∷◌, ◌++◌, length, Option, Some, None, refl, sym, ◌∙◌, ap, subst, arith}
use Rattle.std.specs.List.{slice_get}
use Rattle.std.proofs.lemmas.List.{append_assoc, length-append}
use Rattle.std.proofs.lemmas.Option.{same_Some, slice_get_within}
use Rattle.yv_link_scopes.specs.Rows.{Row}
use Rattle.yv_expand_statements.specs.Origin.{number_of}
use Rattle.yv_expand.specs.Tree.{Item}
use Rattle.yv_expand_uses.specs.AugmentOrder.{augments_giving, is_giving, ordinal, place_of}
use Rattle.yv_expand_statements.specs.Kinds.{is_uses}
use Rattle.yv_expand_uses.specs.Spots.{LayoutView, Whole, copies_of, copy_group, group_below, laid_from, layout_of, one_more, spot_at, spot_of, top_group, top_group_of, used_group}
use Rattle.yv_expand_uses.specs.declared.spot.Spot.{Spot}
use Rattle.yv_expand_uses.proofs.Bounds.{ordinal_within}
use Rattle.yv_expand_uses.proofs.PlaceNumbers.{place_within}
use Rattle.yv_expand_tree.proofs.NodePositions.{in_first}
use Rattle.yv_expand_laws.proofs.CopyEnds.{past_modules, rises}
use Rattle.yv_expand_laws.proofs.FoundItems.{not_none}
use Rattle.yv_expand_laws.proofs.LaidBlocks.{last_at, still_at}
use Rattle.yv_expand_laws.proofs.LabelsAndPaths.{laid_grows, laid_many, told_at}

-- the group of a spot is that below what was laid before it
abbrev pub GroupAt : (w : Whole) (spots : List Spot) (i : ℕ) (x : Item) (s : Spot) → Type 0
GroupAt w spots i x s =
    (before : List Spot) × (more : List Spot) × (spots ≡ before ++ more) × (length before ≡ i)
    × (s.group ≡ group_below w (slice_get w.rows (number_of x.origin)) x.parent (spot_at before x.parent))

laid_group : (w : Whole) (items : List Item) (l : LayoutView) (n i m : ℕ) (s : Spot) (x : Item) → length l.spots ≡ n → m ≡ n + i → slice_get (laid_from w items l).spots m ≡ Some s → slice_get items i ≡ Some x
    → GroupAt w (laid_from w items l).spots m x s
laid_group w [] l n i m s x long m_is at of = absurd (not_none of)
laid_group w (y ∷ xs) l n zero m s x long m_is at of =
    let t : Spot = spot_of w l.spots l.copies y in
    let r = laid_grows w xs (one_more w y l) in
    let more = length-append l.spots (t ∷ []) in
    let here : Some t ≡ Some s =
    sym (last_at l.spots t m (omega (arith, long, m_is))) ∙ (sym (still_at (l.spots ++ t ∷ []) r.0 m (omega (arith, more, long, m_is)))
    ∙ (ap (λ z. slice_get z m) (sym r.1) ∙ at)) in
    let first : s.group ≡ group_below w (slice_get w.rows (number_of y.origin)) y.parent (spot_at l.spots y.parent) = ap (λ (z : Spot). z.group) (sym (same_Some t s here)) in (
      l.spots,
      t ∷ r.0,
      r.1 ∙ append_assoc l.spots (t ∷ []) r.0,
      omega (arith, long, m_is),
      first ∙ ap (λ (z : Item). group_below w (slice_get w.rows (number_of z.origin)) z.parent (spot_at l.spots z.parent)) (same_Some y x of),
    )
laid_group w (y ∷ xs) l n (suc i) m s x long m_is at of =
    laid_group w xs (one_more w y l) (n + 1) i m s x (let e = length-append l.spots (spot_of w l.spots l.copies y ∷ []) in omega (arith, e, long)) (omega (arith, m_is)) at of

pub group_at : (w : Whole) (items : List Item) (i : ℕ) (s : Spot) (x : Item) → slice_get (layout_of w items).spots i ≡ Some s → slice_get items i ≡ Some x → GroupAt w (layout_of w items).spots i x s
unfolding layout_of
group_at w items i s x at of = laid_group w items (record { spots = []; copies = length w.augments }) 0 i i s x refl (omega arith) at of

-- a group is that of the top, of an item, or of a copy before these
abbrev pub IsEarlier : (w : Whole) (items first g : ℕ) → Type 0
IsEarlier w items first g = (g ≤ items) ⊎ ((c : ℕ) × (g ≡ copy_group w c) × (c < first))

module _ (w : Whole) (items : List Item) where
  abbrev spots : List Spot
  spots = (layout_of w items).spots

  abbrev Earlier : ℕ → ℕ → Type 0
  Earlier first g = IsEarlier w (length items) first g

  later : (a b g : ℕ) → a ≤ b → Earlier a g → Earlier b g
  later a b g le (inl low) = inl low
  later a b g le (inr (c, is, less)) = inr (c, is, omega (arith, less, le))

  top_earlier : (first : ℕ) (r : Option Row) → length w.augments ≤ first → Earlier first (top_group w r)
  top_earlier first None modules = inl (omega arith)
  top_earlier first (Some r) modules = by (place_of w.augments r.scope) refl
    where
      by : (o : Option ℕ) → place_of w.augments r.scope ≡ o → Earlier first (top_group_of w o)
      by None is = inl (omega arith)
      by (Some c) is = inr (c, refl, (let l = place_within r.scope 0 w.augments c is in omega (arith, l, modules)))

  -- what is in a uses
  used_earlier : (i p : ℕ) (s t : Spot) (r : Option Row) → slice_get spots i ≡ Some s → slice_get spots p ≡ Some t → p < i → is_uses t.label.kind ≡ true → Earlier t.first t.group
      → Earlier s.first (used_group w t r)
  used_earlier i p s t None at at_p less uses_is own = later t.first s.first t.group (let l = rises w items p i t s less at_p at in omega (arith, l)) own
  used_earlier i p s t (Some q) at at_p less uses_is own = by (is_giving w.rows t.statement q.scope) refl
    where
      by : (b : Bool) → is_giving w.rows t.statement q.scope ≡ b → Earlier s.first (if b then copy_group w (t.first + ordinal w.rows q.scope) else t.group)
      by true gives =
          let l = rises w items p i t s less at_p at in
          let o = ordinal_within w.rows t.statement q.scope gives in
          let c : copies_of w.rows t ≡ length (augments_giving w.rows t.statement) = ap (λ (b : Bool). if b then length (augments_giving w.rows t.statement) else 0) uses_is in
          inr (t.first + ordinal w.rows q.scope, refl, omega (arith, l, o, c))
      by false gives = later t.first s.first t.group (let l = rises w items p i t s less at_p at in omega (arith, l)) own

  below_earlier : (i : ℕ) (s : Spot) (r : Option Row) (o : Option ℕ) (before more : List Spot) → slice_get spots i ≡ Some s → spots ≡ before ++ more → length before ≡ i
      → ((p : ℕ) (t : Spot) → p < i → slice_get spots p ≡ Some t → Earlier t.first t.group) → Earlier s.first (group_below w r o (spot_at before o))
  below_earlier i s r None before more at are long all = top_earlier s.first r (past_modules w items i s at)
  below_earlier i s r (Some p) before more at are long all = by (slice_get before p) refl
    where
      by_kind : (t : Spot) → p < i → slice_get spots p ≡ Some t → (b : Bool) → is_uses t.label.kind ≡ b → Earlier s.first (if b then used_group w t r else p + 1)
      by_kind t less at_p true is = used_earlier i p s t r at at_p less is (all p t less at_p)
      by_kind t less at_p false is = inl (let few = slice_get_within spots i s at in let many = laid_many w items in omega (arith, less, few, many))

      by : (o : Option Spot) → slice_get before p ≡ o → Earlier s.first (group_below w r (Some p) o)
      by None there = inl (omega arith)
      by (Some t) there =
          by_kind t (let l = slice_get_within before p t there in omega (arith, l, long)) (ap (λ (l : List Spot). slice_get l p) are ∙ in_first before more p t there)
          (is_uses t.label.kind) refl

  step : (i : ℕ) (s : Spot) → slice_get spots i ≡ Some s → ((p : ℕ) (t : Spot) → p < i → slice_get spots p ≡ Some t → Earlier t.first t.group) → Earlier s.first s.group
  step i s at all =
      let x = told_at w items i s at in
      let (before, more, are, long, group) = group_at w items i s x.0 at x.1 in
      subst (Earlier s.first) (sym group) (below_earlier i s (slice_get w.rows (number_of x.0.origin)) x.0.parent before more at are long all)

  earlier : (n i : ℕ) (s : Spot) → i < n → slice_get spots i ≡ Some s → Earlier s.first s.group
  earlier zero i s less at = absurd (omega (arith, less))
  earlier (suc n) i s less at = step i s at (λ p t l there. earlier n p t (omega (arith, less, l)) there)

  pub laid_earlier : (i : ℕ) (s : Spot) → slice_get (layout_of w items).spots i ≡ Some s → IsEarlier w (length items) s.first s.group
  laid_earlier i s at = earlier (suc i) i s (omega arith) at
