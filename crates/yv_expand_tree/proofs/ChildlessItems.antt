-- No item comes to stand below one that takes no augments and below which none was.
use Rattle.std.proofs.Common.{inl, inr, ◌≡◌, ℕ, zero, suc, ◌+◌, ◌<◌, Bool, true, false, if◌then◌else◌, List, [], ◌∷◌, ◌++◌, length, length-set, get_or, replicate, set, Option, Some, None, refl, sym, ap, ◌∙◌, subst, arith}
use Rattle.std.specs.List.{slice_get}
use Rattle.std.proofs.lemmas.Bool.{cases_eq, cases_lt, false≢true}
use Rattle.std.proofs.lemmas.List.{get_or_past, get_or-set_other, get_or-set_same}
use Rattle.std.proofs.lemmas.Option.{same_Some}
use Rattle.yv_link_scopes.specs.Rows.{Row}
use Rattle.yv_expand_statements.specs.Origin.{number_of}
use Rattle.yv_expand.specs.Tree.{Item}
use Rattle.yv_expand_rounds.specs.declared.end.End.{End}
use Rattle.yv_expand_rounds.specs.declared.end.End.TheVariants as end
use Rattle.yv_expand_rounds.specs.declared.label.Label.{Label}
use Rattle.yv_expand_rounds.specs.Groups.{Groups, group_of_augment, members_of, move_items}
use Rattle.yv_expand_statements.specs.Kinds.{may_be_target, is_uses}
use Rattle.yv_expand_rounds.specs.Paths.{path_end}
use Rattle.yv_expand_rounds.specs.Rounds.{round, rounds}
use Rattle.yv_expand_rounds.specs.Turns.{State, give, is_applied, is_some_target, settle, target, turn}
use Rattle.yv_expand_uses.specs.AugmentOrder.{augments_giving, is_giving, ordinal, place_of}
use Rattle.yv_expand_augments.specs.Augmentation.{AreAugmented, copy_turn, last_of, placed_from, turns, turns_from}
use Rattle.yv_expand_uses.specs.Paths.{module_paths, path_in}
use Rattle.yv_expand_uses.specs.Spots.{LayoutView, Whole, copy_group, group_below, labels_of, layout_of, laid_from, one_more, spot_at, spot_of, top_group_of, top_group, used_group}
use Rattle.yv_expand_uses.specs.declared.spot.Spot.{Spot}
use Rattle.yv_expand_uses.proofs.Bounds.{pushed_at}

-- where items stand before any augment is applied
module _ (w : Whole) (V : ℕ → Type 0) (within : (p : ℕ) → V p → p < w.items) where
  -- the group isn't that of what stands below one of these
  abbrev Free : ℕ → Type 0
  Free g = (p : ℕ) → V p → g ≡ p + 1 → ⊥

  abbrev pub AllFree : List Spot → Type 0
  AllFree spots = (i : ℕ) (s : Spot) → slice_get spots i ≡ Some s → Free s.group

  top_free : (r : Option Row) → Free (top_group w r)
  top_free None p v e = omega (arith, e)
  top_free (Some r) p v e = by (place_of w.augments r.scope) e
    where
      by : (o : Option ℕ) → top_group_of w o ≡ p + 1 → ⊥
      by None h = omega (arith, h)
      by (Some place) h = (let l = within p v in omega (arith, h, l))

  used_free : (s : Spot) (r : Option Row) → Free s.group → Free (used_group w s r)
  used_free s None free p v e = free p v e
  used_free s (Some r) free p v e = by (is_giving w.rows s.statement r.scope) e
    where
      by : (b : Bool) → (if b then copy_group w (s.first + ordinal w.rows r.scope) else s.group) ≡ p + 1 → ⊥
      by true h = (let l = within p v in omega (arith, h, l))
      by false h = free p v h

  below_free : (spots : List Spot) (r : Option Row) (parent : Option ℕ) → ((p : ℕ) → parent ≡ Some p → V p → ⊥) → AllFree spots
      → Free (group_below w r parent (spot_at spots parent))
  below_free spots r None high all p v e = top_free r p v e
  below_free spots r (Some q) high all p v e = by (slice_get spots q) refl e
    where
      inner : (s : Spot) (b : Bool) → slice_get spots q ≡ Some s → (if b then used_group w s r else q + 1) ≡ p + 1 → ⊥
      inner s true at h = used_free s r (all q s at) p v h
      inner s false at h = high q refl (subst V (let e : p ≡ q = omega (arith, h) in e) v)

      by : (o : Option Spot) → slice_get spots q ≡ o → group_below w r (Some q) o ≡ p + 1 → ⊥
      by None at h = omega (arith, h)
      by (Some s) at h = inner s (is_uses s.label.kind) at h

  laid_free : (xs : List Item) (l : LayoutView) → ((i p : ℕ) (x : Item) → slice_get xs i ≡ Some x → x.parent ≡ Some p → V p → ⊥) → AllFree l.spots
      → AllFree (laid_from w xs l).spots
  laid_free [] l high all = all
  laid_free (x ∷ xs) l high all =
      laid_free xs (one_more w x l) (λ i p y at up v. high (suc i) p y at up v)
      (λ i s at. elim (pushed_at l.spots (spot_of w l.spots l.copies x) s i at) [
        | inl old ↦ all i s old
        | inr same ↦
            subst (λ (t : Spot). Free t.group) same
            (below_free l.spots (slice_get w.rows (number_of x.origin)) x.parent (λ p up v. high 0 p x refl up v) all)
      ])

  pub all_free : (items : List Item) → ((i p : ℕ) (x : Item) → slice_get items i ≡ Some x → x.parent ≡ Some p → V p → ⊥) → AllFree (layout_of w items).spots
  unfolding layout_of
  all_free items high =
      laid_free items (record { spots = []; copies = length w.augments }) high (λ i s at. absurd (let bad : None ≡ Some s = at in cc))

-- what augments do to groups
module _ (labels : List Label) (V : ℕ → Type 0) (closed : (p : ℕ) (l : Label) → V p → slice_get labels p ≡ Some l → may_be_target l.kind ≡ false) where
  -- nothing stands below these
  abbrev pub Empty : Groups → Type 0
  Empty groups = (p : ℕ) → V p → members_of groups (p + 1) ≡ []

  set_empty : (groups : Groups) (g : ℕ) (ms : List ℕ) → ((p : ℕ) → V p → g ≡ p + 1 → ms ≡ []) → Empty groups → Empty (set groups g ms)
  set_empty groups g ms free empty p v = elim (cases_eq (p + 1) g) [
    | inl same ↦ elim (cases_lt (p + 1) (length groups)) [
      | inl lt ↦
          ap (λ (h : ℕ). members_of (set groups h ms) (p + 1)) (sym same) ∙ get_or-set_same groups (p + 1) ms [] lt ∙ free p v (sym same)
      | inr past ↦ get_or_past (set groups g ms) (p + 1) [] (let l = length-set groups g ms in omega (arith, l, past))
    ]
    | inr other ↦ get_or-set_other groups g (p + 1) ms [] other ∙ empty p v
  ]

  none_there : (n i : ℕ) → get_or (replicate n (let none : List ℕ = [] in none)) i [] ≡ []
  none_there zero i = refl
  none_there (suc n) zero = refl
  none_there (suc n) (suc i) = none_there n i

  target_told : (e : End) (i : ℕ) → target labels e ≡ Some i → (l : Label) × (slice_get labels i ≡ Some l) × (may_be_target l.kind ≡ true)
  target_told (end.Start g) i h = absurd (let bad : None ≡ Some i = h in cc)
  target_told (end.ShorthandCase g) i h = absurd (let bad : None ≡ Some i = h in cc)
  target_told (end.Node n) i h = by (slice_get labels n) refl h
    where
      inner : (l : Label) (b : Bool) → slice_get labels n ≡ Some l → may_be_target l.kind ≡ b → (if b then Some n else None) ≡ Some i
          → (l : Label) × (slice_get labels i ≡ Some l) × (may_be_target l.kind ≡ true)
      inner l true at is e = (l, ap (slice_get labels) (sym (same_Some n i e)) ∙ at, is)
      inner l false at is e = absurd (let bad : None ≡ Some i = e in cc)

      by : (o : Option Label) → slice_get labels n ≡ o → target labels (end.Node n) ≡ Some i
          → (l : Label) × (slice_get labels i ≡ Some l) × (may_be_target l.kind ≡ true)
      by None at e =
          absurd (let bad : None ≡ Some i = sym (ap (λ (o : Option Label). if is_some_target o then Some n else None) at) ∙ e in cc)
      by (Some l) at e =
          inner l (may_be_target l.kind) at refl (sym (ap (λ (o : Option Label). if is_some_target o then Some n else None) at) ∙ e)

  moved_empty : (from i : ℕ) (e : End) (groups : Groups) → target labels e ≡ Some i → Empty groups → Empty (move_items from (i + 1) groups)
  moved_empty from i e groups is empty =
      let both : List ℕ = members_of groups (i + 1) ++ members_of groups from in
      let (l, at, may) = target_told e i is in
      set_empty (set groups (i + 1) both) from [] (λ p v same. refl)
      (set_empty groups (i + 1) both
      (λ p v same.
      let here : i ≡ p = omega (arith, same) in
      absurd (false≢true (sym (closed p l v (ap (slice_get labels) (sym here) ∙ at)) ∙ may)))
      empty)

  given_empty : (from : ℕ) (e : End) (groups : Groups) → Empty groups → Empty (give from (target labels e) groups)
  given_empty from e groups empty = by (target labels e) refl
    where
      by : (o : Option ℕ) → target labels e ≡ o → Empty (give from o groups)
      by None is = empty
      by (Some i) is = moved_empty from i e groups is empty

  abbrev pub Holds : State → Type 0
  Holds st = Empty st.groups

  settled_empty : (b : Bool) (k : ℕ) (o : Option End) (st : State) → Holds st → Holds (if b then st else settle labels k o st)
  settled_empty true k o st empty = empty
  settled_empty false k None st empty = empty
  settled_empty false k (Some e) st empty = given_empty (group_of_augment labels k) e st.groups empty

  turn_empty : (k start limit : ℕ) (names : List ℕ) (st : State) → Holds st → Holds (turn labels k start limit names st)
  turn_empty k start limit names st empty = settled_empty (is_applied st k) k (path_end labels st.groups limit names (end.Start start)) st empty

  round_empty : (k : ℕ) (paths : List (List ℕ)) (st : State) → Holds st → Holds (round labels k paths st)
  round_empty k [] st empty = empty
  round_empty k (names ∷ others) st empty =
      round_empty (k + 1) others (turn labels k 0 (length labels) names st) (turn_empty k 0 (length labels) names st empty)

  rounds_empty : (first : ℕ) (paths : List (List ℕ)) (n : ℕ) (st : State) → Holds st → Holds (rounds labels first paths n st)
  rounds_empty first paths zero st empty = empty
  rounds_empty first paths (suc n) st empty = rounds_empty first paths n (round labels first paths st) (round_empty first paths st empty)

  module _ (w : Whole) where
    turns_empty : (s : Spot) (number : ℕ) (augments : List ℕ) (st : State) → Holds st → Holds (turns_from w labels s number augments st)
    turns_empty s number [] st empty = empty
    turns_empty s number (a ∷ others) st empty =
        turns_empty s (number + 1) others (copy_turn w labels s number a st)
        (turn_empty number s.group (last_of (members_of st.groups (group_of_augment labels number))) (path_in w s.module_file a) st empty)

    spot_empty : (s : Spot) (st : State) → Holds st → Holds (turns w labels s st)
    spot_empty s st empty = by (is_uses s.label.kind)
      where
        by : (b : Bool) → Holds (if b then turns_from w labels s s.first (augments_giving w.rows s.statement) st else st)
        by true = turns_empty s s.first (augments_giving w.rows s.statement) st empty
        by false = empty

    placed_empty : (copies i : ℕ) (ss : List Spot) → ((j : ℕ) (s : Spot) → slice_get ss j ≡ Some s → (p : ℕ) → V p → s.group ≡ p + 1 → ⊥)
        → Holds (placed_from w labels copies i ss)
    placed_empty copies i [] free p v = none_there (length labels + 1 + copies) (p + 1)
    placed_empty copies i (s ∷ ss) free p v =
        let before : State = placed_from w labels copies (i + 1) ss in
        let st : State = turns w labels s before in
        set_empty st.groups s.group (members_of st.groups s.group ++ i ∷ []) (λ m n e. absurd (free 0 s refl m n e))
        (spot_empty s before (λ q u. placed_empty copies (i + 1) ss (λ j t at m n e. free (suc j) t at m n e) q u)) p v

-- so nothing stands below them when all augments were applied
pub grafted_empty : (w : Whole) (V : ℕ → Type 0) (items : List Item) (st : State) → ((p : ℕ) → V p → p < w.items)
    → ((i p : ℕ) (x : Item) → slice_get items i ≡ Some x → x.parent ≡ Some p → V p → ⊥)
    → ((p : ℕ) (l : Label) → V p → slice_get (labels_of (layout_of w items).spots) p ≡ Some l → may_be_target l.kind ≡ false) → AreAugmented w items st
    → (p : ℕ) → V p → members_of st.groups (p + 1) ≡ []
grafted_empty w V items st within high closed g =
    let l : LayoutView = layout_of w items in
    let labels : List Label = labels_of l.spots in
    subst (Holds labels V closed) (sym g.applied.is)
    (rounds_empty labels V closed 0 (module_paths w) g.applied.count (placed_from w labels l.copies 0 l.spots)
    (placed_empty labels V closed w l.copies 0 l.spots (all_free w V within items high)))
