-- Where items stand is within what there is.
use Rattle.std.proofs.Common.{◌≡◌, ℕ, zero, suc, ◌+◌, ◌<◌, ◌≤◌, ◌⊎◌, inl, inr, Bool, true, false, if◌then◌else◌, List, [], ◌∷◌, ◌++◌, length, drop, refl, sym, ◌∙◌, ap, subst, arith, Option, Some, None, length-append, eqb-true}
use Rattle.std.specs.List.{slice_get}
use Rattle.std.proofs.lemmas.Option.{same_Some, slice_get_within}
use Rattle.yv_link_scopes.specs.Rows.{Row}
use Rattle.yv_expand_statements.specs.Origin.{number_of}
use Rattle.yv_expand.specs.Tree.{Item}
use Rattle.yv_expand_statements.specs.Kinds.{is_uses}
use Rattle.yv_expand_uses.specs.AugmentOrder.{augments_giving, giving_places, is_giving, is_in, ordinal, place_before, place_of}
use Rattle.yv_expand_uses.specs.Spots.{LayoutView, Whole, copies_of, group_below, layout_of, laid_from, one_more, spot_at, spot_of, top_group_of, top_group, used_group}
use Rattle.yv_expand_uses.specs.InnerLayout.{AllFit, AreLaid, AreNumbered, Fits, IsNumbered}
use Rattle.yv_expand_uses.specs.declared.spot.Spot.{Spot}
use Rattle.yv_expand_uses.proofs.PlaceNumbers.{before_within, place_within}
use Rattle.yv_expand_uses.proofs.StatementLists.{rest_of}

pub pushed_at : {A : Type 0} (xs : List A) (y x : A) (i : ℕ) → slice_get (xs ++ y ∷ []) i ≡ Some x → (slice_get xs i ≡ Some x) ⊎ (y ≡ x)
pushed_at [] y x zero h = inr (same_Some y x h)
pushed_at [] y x (suc i) h = absurd (let bad : None ≡ Some x = h in cc)
pushed_at (z ∷ zs) y x zero h = inl h
pushed_at (z ∷ zs) y x (suc i) h = pushed_at zs y x i h

-- one that gives something in a block is among those of the block
pub ordinal_within : (rows : List Row) (k a : ℕ) → is_giving rows k a ≡ true → ordinal rows a < length (augments_giving rows k)
ordinal_within rows k a is = by (slice_get (giving_places rows) a) refl
  where
    by : (o : Option (Option ℕ)) → slice_get (giving_places rows) a ≡ o → ordinal rows a < length (augments_giving rows k)
    by None at = absurd (let bad : false ≡ true = ap (is_in k) (sym at) ∙ is in cc)
    by (Some None) at = absurd (let bad : false ≡ true = ap (is_in k) (sym at) ∙ is in cc)
    by (Some (Some b)) at =
        let same : b ≡ k = eqb-true b k (ap (is_in k) (sym at) ∙ is) in
        let here : slice_get (giving_places rows) a ≡ Some (Some k) = at ∙ ap (λ m. Some (Some m)) same in
        let told : ordinal rows a ≡ place_before (giving_places rows) a (Some (Some k)) = ap (place_before (giving_places rows) a) here in
        let l = before_within k 0 a (giving_places rows) here in
        omega (arith, told, l)

-- copies only grow
copies_grow : (w : Whole) (xs : List Item) (l : LayoutView) → l.copies ≤ (laid_from w xs l).copies
copies_grow w [] l = omega arith
copies_grow w (x ∷ xs) l = let more = copies_grow w xs (one_more w x l) in omega (arith, more)

module _ (w : Whole) (total : ℕ) (modules : length w.augments ≤ total) where
  top_fits : (r : Option Row) → top_group w r < w.items + 1 + total
  top_fits None = omega arith
  top_fits (Some r) = by (place_of w.augments r.scope) refl
    where
      by : (o : Option ℕ) → place_of w.augments r.scope ≡ o → top_group_of w o < w.items + 1 + total
      by None at = omega arith
      by (Some j) at = let l = place_within r.scope 0 w.augments j at in omega (arith, l, modules)

  used_fits : (s : Spot) (r : Option Row) → is_uses s.label.kind ≡ true → Fits w total s → used_group w s r < w.items + 1 + total
  used_fits s None is f = f.group
  used_fits s (Some r) is f = by (is_giving w.rows s.statement r.scope) refl
    where
      by : (b : Bool) → is_giving w.rows s.statement r.scope ≡ b
          → (if b then w.items + 1 + (s.first + ordinal w.rows r.scope) else s.group) < w.items + 1 + total
      by true h =
          let l = ordinal_within w.rows s.statement r.scope h in
          let c : copies_of w.rows s ≡ length (augments_giving w.rows s.statement) = ap (λ (b : Bool). if b then length (augments_giving w.rows s.statement) else 0) is in
          let m = f.copies in
          omega (arith, l, c, m)
      by false h = f.group

  below_fits : (spots : List Spot) (r : Option Row) (parent : Option ℕ) → length spots ≤ w.items → AllFit w total spots
      → group_below w r parent (spot_at spots parent) < w.items + 1 + total
  below_fits spots r None within all = top_fits r
  below_fits spots r (Some p) within all = by (slice_get spots p) refl
    where
      by : (o : Option Spot) → slice_get spots p ≡ o → group_below w r (Some p) o < w.items + 1 + total
      by None at = omega arith
      by (Some s) at = inner (is_uses s.label.kind) refl
        where
          inner : (b : Bool) → is_uses s.label.kind ≡ b → (if b then used_group w s r else p + 1) < w.items + 1 + total
          inner true h = used_fits s r h (all p s at)
          inner false h = let l = slice_get_within spots p s at in omega (arith, l, within)

  -- the items so far fit, and so do all
  all_fit : (xs : List Item) (l : LayoutView) → length l.spots + length xs ≤ w.items → (laid_from w xs l).copies ≤ total → AllFit w total l.spots
      → AllFit w total (laid_from w xs l).spots
  all_fit [] l room le all = all
  all_fit (x ∷ xs) l room le all =
      let s : Spot = spot_of w l.spots l.copies x in
      let grown = copies_grow w xs (one_more w x l) in
      let here : Fits w total s = record {
        group = below_fits l.spots (slice_get w.rows (number_of x.origin)) x.parent (omega (arith, room)) all;
        copies = omega (arith, grown, le);
      } in
      let long : length (l.spots ++ s ∷ []) ≡ length l.spots + 1 = length-append l.spots (s ∷ []) in
      all_fit xs (one_more w x l) (omega (arith, long, room)) le
      (λ k t at. elim (pushed_at l.spots s t k at) [ inl old ↦ all k t old | inr same ↦ subst (Fits w total) same here ])

-- as many spots as items
laid_long : (w : Whole) (xs : List Item) (l : LayoutView) → length (laid_from w xs l).spots ≡ length l.spots + length xs
laid_long w [] l = omega arith
laid_long w (x ∷ xs) l =
    let long : length (l.spots ++ spot_of w l.spots l.copies x ∷ []) ≡ length l.spots + 1 = length-append l.spots (spot_of w l.spots l.copies x ∷ []) in
    let rest = laid_long w xs (one_more w x l) in
    omega (arith, long, rest)

-- all items fit
pub laid_whole : (w : Whole) (items : List Item) → length items ≡ w.items → AreLaid w (layout_of w items)
unfolding layout_of
laid_whole w items long =
    let l : LayoutView = laid_from w items (record { spots = []; copies = length w.augments }) in
    let grown : length w.augments ≤ l.copies = copies_grow w items (record { spots = []; copies = length w.augments }) in
    record {
      all = all_fit w l.copies grown items (record { spots = []; copies = length w.augments }) (omega (arith, long)) (omega arith)
          (λ k s at. absurd (let bad : None ≡ Some s = at in cc));
      modules = grown;
      long = laid_long w items (record { spots = []; copies = length w.augments }) ∙ omega (arith, long);
    }

-- one more item is laid out
pub laid_more : (w : Whole) (items : List Item) (i : ℕ) (x : Item) (spots given new : List Spot) (s : Spot) (copies count next : ℕ) (all : LayoutView)
    → slice_get items i ≡ Some x → s ≡ spot_of w given count x → given ≡ spots → count ≡ copies → new ≡ spots ++ s ∷ []
    → next ≡ copies + copies_of w.rows s
    → laid_from w (drop i items) (record { spots = spots; copies = copies }) ≡ all
    → laid_from w (drop (i + 1) items) (record { spots = new; copies = next }) ≡ all
laid_more w items i x spots given new s copies count next all at made same_spots same_count added more before =
    let rest : List Item = drop (i + 1) items in
    let is : s ≡ spot_of w spots copies x =
    made ∙ ap (λ (l : List Spot). spot_of w l count x) same_spots ∙ ap (λ (n : ℕ). spot_of w spots n x) same_count in
    ap (λ (ss : List Spot). laid_from w rest (record { spots = ss; copies = next })) (added ∙ ap (λ (t : Spot). spots ++ t ∷ []) is)
    ∙ ap (λ (n : ℕ). laid_from w rest (record { spots = spots ++ spot_of w spots copies x ∷ []; copies = n }))
    (more ∙ ap (λ (t : Spot). copies + copies_of w.rows t) is)
    ∙ ap (λ (xs : List Item). laid_from w xs (record { spots = spots; copies = copies })) (sym (rest_of items i x at))
    ∙ before

-- the copies that it adds are numbered
pub numbered_more : (rows : List Row) (spots new : List Spot) (s : Spot) → new ≡ spots ++ s ∷ [] → IsNumbered rows s → AreNumbered rows spots → AreNumbered rows new
numbered_more rows spots new s is here before k t at =
    elim (pushed_at spots s t k (ap (λ (l : List Spot). slice_get l k) (sym is) ∙ at)) [ inl old ↦ before k t old | inr same ↦ subst (IsNumbered rows) same here ]
