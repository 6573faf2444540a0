-- No item stands below a uses in the final tree.
use Rattle.std.proofs.Common.{inl, inr, ◌⊎◌, ◌≡◌, ℕ, zero, suc, ◌+◌, ◌<◌, Bool, true, false, if◌then◌else◌, List, [], ◌∷◌, ◌++◌, length, set, Option, Some, None, refl, sym, ap, ◌∙◌, subst, arith}
use Rattle.std.specs.List.{slice_get}
use Rattle.std.specs.Option.{option_map}
use Rattle.std.proofs.lemmas.Bool.{false≢true}
use Rattle.std.proofs.lemmas.List.Sorted.{length_permutation}
use Rattle.std.proofs.lemmas.Option.{same_Some, slice_get-map, slice_get_within}
use Rattle.yv_link_scopes.specs.Rows.{Row}
use Rattle.yv_expand_statements.specs.Origin.{number_of}
use Rattle.yv_expand.specs.Tree.{Item}
use Rattle.yv_expand_rounds.specs.declared.end.End.{End}
use Rattle.yv_expand_rounds.specs.declared.end.End.TheVariants as end
use Rattle.yv_expand_rounds.specs.declared.label.Label.{Label}
use Rattle.yv_expand_rounds.specs.Groups.{Groups, group_of_augment, members_of}
use Rattle.yv_expand_statements.specs.Kinds.{may_be_target, is_uses}
use Rattle.yv_expand_rounds.specs.Paths.{path_end}
use Rattle.yv_expand_rounds.specs.Rounds.{round, rounds}
use Rattle.yv_expand_rounds.specs.Tree.{Make, Tree}
use Rattle.yv_expand_rounds.specs.Tree.Make.{no_items, one_more as one_more_item}
use Rattle.yv_expand_rounds.specs.Tree as by_number
use Rattle.yv_expand_rounds.specs.Turns.{State, give, is_applied, is_some_target, settle, target, turn}
use Rattle.yv_expand_uses.specs.AugmentOrder.{augments_giving, is_giving, ordinal, place_of}
use Rattle.yv_expand_augments.specs.Augmentation.{AreAugmented, copy_turn, last_of, placed_from, turns, turns_from}
use Rattle.yv_expand_uses.specs.Paths.{module_paths, path_in}
use Rattle.yv_expand_uses.specs.Spots.{LayoutView, Whole, copy_group, group_below, labels_of, layout_of, laid_from, one_more, spot_at, spot_of, top_group_of, top_group, used_group}
use Rattle.yv_expand_uses.specs.declared.spot.Spot.{Spot}
use Rattle.yv_expand.proofs.UnitListing.{pushed_at}
use Rattle.yv_expand_laws.proofs.FoundItems.{not_none}
use Rattle.yv_expand_laws.proofs.KeywordKinds.{uses_only}
use Rattle.yv_expand_laws.proofs.GroupMarks.{set_cases}
use Rattle.yv_expand_laws.proofs.ExpansionStart.{none_there}
use Rattle.yv_expand_laws.proofs.LabelsAndPaths.{laid_many}

-- the groups in which items are laid
module _ (w : Whole) where
  -- a group is that of the top, of an augment, or of a node among these, which isn't this one
  abbrev IsFree : List Spot → ℕ → Type 0
  IsFree spots g =
      (g ≡ 0) ⊎ ((w.items < g) ⊎ ((q : ℕ) × (t : Spot) × (g ≡ q + 1) × (slice_get spots q ≡ Some t) × (is_uses t.label.kind ≡ false)))

  abbrev AreFree : List Spot → Type 0
  AreFree spots = (i : ℕ) (s : Spot) → slice_get spots i ≡ Some s → IsFree spots s.group

  free_longer : (spots : List Spot) (s : Spot) (g : ℕ) → IsFree spots g → IsFree (spots ++ s ∷ []) g
  free_longer spots s g (inl top) = inl top
  free_longer spots s g (inr (inl high)) = inr (inl high)
  free_longer spots s g (inr (inr (q, t, is, at, no_uses))) = inr (inr (q, t, is, first spots q at, no_uses))
    where
      first : (xs : List Spot) (q : ℕ) → slice_get xs q ≡ Some t → slice_get (xs ++ s ∷ []) q ≡ Some t
      first [] q at = absurd (not_none at)
      first (x ∷ xs) zero at = at
      first (x ∷ xs) (suc q) at = first xs q at

  top_free : (spots : List Spot) (r : Option Row) → IsFree spots (top_group w r)
  top_free spots None = inl refl
  top_free spots (Some r) = by (place_of w.augments r.scope)
    where
      by : (o : Option ℕ) → IsFree spots (top_group_of w o)
      by None = inl refl
      by (Some place) = inr (inl (omega arith))

  used_free : (spots : List Spot) (s : Spot) (r : Option Row) → IsFree spots s.group → IsFree spots (used_group w s r)
  used_free spots s None free = free
  used_free spots s (Some r) free = by (is_giving w.rows s.statement r.scope)
    where
      by : (b : Bool) → IsFree spots (if b then copy_group w (s.first + ordinal w.rows r.scope) else s.group)
      by true = inr (inl (omega arith))
      by false = free

  below_free : (spots : List Spot) (r : Option Row) (parent : Option ℕ) → AreFree spots
      → IsFree spots (group_below w r parent (spot_at spots parent))
  below_free spots r None all = top_free spots r
  below_free spots r (Some q) all = by (slice_get spots q) refl
    where
      inner : (s : Spot) (b : Bool) → slice_get spots q ≡ Some s → is_uses s.label.kind ≡ b
          → IsFree spots (if b then used_group w s r else q + 1)
      inner s true at is = used_free spots s r (all q s at)
      inner s false at is = inr (inr (q, s, refl, at, is))

      by : (o : Option Spot) → slice_get spots q ≡ o → IsFree spots (group_below w r (Some q) o)
      by None at = inl refl
      by (Some s) at = inner s (is_uses s.label.kind) at refl

  laid_free : (xs : List Item) (l : LayoutView) → AreFree l.spots → AreFree (laid_from w xs l).spots
  laid_free [] l all = all
  laid_free (x ∷ xs) l all =
      let new : Spot = spot_of w l.spots l.copies x in
      laid_free xs (one_more w x l) (λ i s at. elim (pushed_at l.spots new s i at) [
        | inl old ↦ free_longer l.spots new s.group (all i s old)
        | inr last ↦
            subst (λ (t : Spot). IsFree (l.spots ++ new ∷ []) t.group) last.1
            (free_longer l.spots new new.group (below_free l.spots (slice_get w.rows (number_of x.origin)) x.parent all))
      ])

  all_free : (items : List Item) → AreFree (layout_of w items).spots
  unfolding layout_of
  all_free items = laid_free items (record { spots = []; copies = length w.augments }) (λ i s at. absurd (not_none at))

-- what augments do to groups
module _ (labels : List Label) (IsShut : ℕ → Type 0) (shut : (p : ℕ) (l : Label) → IsShut p → slice_get labels p ≡ Some l → may_be_target l.kind ≡ false) where
  -- nothing stands below these
  abbrev AreEmpty : Groups → Type 0
  AreEmpty groups = (p : ℕ) → IsShut p → members_of groups (p + 1) ≡ []

  set_empty : (groups : Groups) (g : ℕ) (ms : List ℕ) → ((p : ℕ) → IsShut p → p + 1 ≡ g → ms ≡ []) → AreEmpty groups
      → AreEmpty (set groups g ms)
  set_empty groups g ms free empty p is = elim (set_cases groups g (p + 1) ms) [
    | inl here ↦ here.1 ∙ free p is here.0
    | inr other ↦ other ∙ empty p is
  ]

  no_target : (e : End) (i : ℕ) → target labels e ≡ Some i → IsShut i → ⊥
  no_target (end.Start g) i h is = not_none h
  no_target (end.ShorthandCase g) i h is = not_none h
  no_target (end.Node n) i h is = by (slice_get labels n) refl h
    where
      inner : (l : Label) (b : Bool) → slice_get labels n ≡ Some l → may_be_target l.kind ≡ b → (if b then Some n else None) ≡ Some i → ⊥
      inner l false at may e = not_none e
      inner l true at may e = false≢true (sym (shut i l is (ap (slice_get labels) (sym (same_Some n i e)) ∙ at)) ∙ may)

      by : (o : Option Label) → slice_get labels n ≡ o → (if is_some_target o then Some n else None) ≡ Some i → ⊥
      by None at e = not_none e
      by (Some l) at e = inner l (may_be_target l.kind) at refl e

  given_empty : (from : ℕ) (e : End) (groups : Groups) → AreEmpty groups → AreEmpty (give from (target labels e) groups)
  given_empty from e groups empty = by (target labels e) refl
    where
      by : (o : Option ℕ) → target labels e ≡ o → AreEmpty (give from o groups)
      by None is = empty
      by (Some i) is =
          let both : List ℕ = members_of groups (i + 1) ++ members_of groups from in
          set_empty (set groups (i + 1) both) from [] (λ p at same. refl)
          (set_empty groups (i + 1) both (λ p at same. absurd (no_target e i is (subst IsShut (let f : p ≡ i = omega (arith, same) in f) at))) empty)

  turn_empty : (k start limit : ℕ) (names : List ℕ) (st : State) → AreEmpty st.groups → AreEmpty (turn labels k start limit names st).groups
  turn_empty k start limit names st empty = by (is_applied st k) (path_end labels st.groups limit names (end.Start start))
    where
      by : (b : Bool) (o : Option End) → AreEmpty (if b then st else settle labels k o st).groups
      by true o = empty
      by false None = empty
      by false (Some e) = given_empty (group_of_augment labels k) e st.groups empty

  round_empty : (k : ℕ) (paths : List (List ℕ)) (st : State) → AreEmpty st.groups → AreEmpty (round labels k paths st).groups
  round_empty k [] st empty = empty
  round_empty k (names ∷ others) st empty =
      round_empty (k + 1) others (turn labels k 0 (length labels) names st) (turn_empty k 0 (length labels) names st empty)

  rounds_empty : (first : ℕ) (paths : List (List ℕ)) (n : ℕ) (st : State) → AreEmpty st.groups
      → AreEmpty (rounds labels first paths n st).groups
  rounds_empty first paths zero st empty = empty
  rounds_empty first paths (suc n) st empty = rounds_empty first paths n (round labels first paths st) (round_empty first paths st empty)

  module _ (w : Whole) where
    turns_empty : (s : Spot) (number : ℕ) (augments : List ℕ) (st : State) → AreEmpty st.groups
        → AreEmpty (turns_from w labels s number augments st).groups
    turns_empty s number [] st empty = empty
    turns_empty s number (a ∷ others) st empty =
        turns_empty s (number + 1) others (copy_turn w labels s number a st)
        (turn_empty number s.group (last_of (members_of st.groups (group_of_augment labels number))) (path_in w s.module_file a) st empty)

    spot_empty : (s : Spot) (st : State) → AreEmpty st.groups → AreEmpty (turns w labels s st).groups
    spot_empty s st empty = by (is_uses s.label.kind)
      where
        by : (b : Bool) → AreEmpty (if b then turns_from w labels s s.first (augments_giving w.rows s.statement) st else st).groups
        by true = turns_empty s s.first (augments_giving w.rows s.statement) st empty
        by false = empty

    placed_empty : (copies i : ℕ) (ss : List Spot)
        → ((j : ℕ) (s : Spot) → slice_get ss j ≡ Some s → (p : ℕ) → IsShut p → p + 1 ≡ s.group → ⊥)
        → AreEmpty (placed_from w labels copies i ss).groups
    placed_empty copies i [] free p is = none_there (length labels) copies (p + 1)
    placed_empty copies i (s ∷ ss) free p is =
        let before : State = placed_from w labels copies (i + 1) ss in
        let st : State = turns w labels s before in
        set_empty st.groups s.group (members_of st.groups s.group ++ i ∷ []) (λ q shut_q same. absurd (free 0 s refl q shut_q same))
        (spot_empty s before (λ q shut_q. placed_empty copies (i + 1) ss (λ j t at r shut_r same. free (suc j) t at r shut_r same) q shut_q)) p is

module _ (w : Whole) (items : List Item) (many : w.items ≡ length items) where
  abbrev spots : List Spot
  spots = (layout_of w items).spots

  abbrev pub IsUses : ℕ → Type 0
  IsUses p = (s : Spot) × (slice_get spots p ≡ Some s) × (is_uses s.label.kind ≡ true)

  -- no group of items is that of a uses
  no_group : (j : ℕ) (s : Spot) → slice_get spots j ≡ Some s → (p : ℕ) → IsUses p → p + 1 ≡ s.group → ⊥
  no_group j s at p (t, there, is) same = elim (all_free w items j s at) [
    | inl top ↦ absurd (omega (arith, top, same))
    | inr (inl high) ↦
        (let less = slice_get_within spots p t there in let long = laid_many w items in absurd (omega (arith, high, same, less, long, many)))
    | inr (inr (q, u, group, found, no_uses)) ↦
        let one : p ≡ q = omega (arith, group, same) in
        let alike : u ≡ t = same_Some u t (sym found ∙ (ap (slice_get spots) (sym one) ∙ there)) in
        false≢true (sym (ap (λ (z : Spot). is_uses z.label.kind) (sym alike) ∙ no_uses) ∙ is)
  ]

  -- nothing stands below a uses when all augments were applied
  pub uses_empty : (st : State) → AreAugmented w items st → (p : ℕ) → IsUses p → members_of st.groups (p + 1) ≡ []
  uses_empty st g =
      let l : LayoutView = layout_of w items in
      let labels : List Label = labels_of l.spots in
      let closed : (p : ℕ) (a : Label) → IsUses p → slice_get labels p ≡ Some a → may_be_target a.kind ≡ false = λ p a is at.
      (let same : is.0.label ≡ a = same_Some is.0.label a (sym (slice_get-map (λ (z : Spot). z.label) spots p ∙ ap (option_map (λ (z : Spot). z.label)) is.1) ∙ at) in
      ap (λ (z : Label). may_be_target z.kind) (sym same) ∙ ap may_be_target (uses_only is.0.label.kind is.2)) in
      subst (λ (z : State). AreEmpty labels IsUses closed z.groups) (sym g.applied.is)
      (rounds_empty labels IsUses closed 0 (module_paths w) g.applied.count (placed_from w labels l.copies 0 l.spots)
      (placed_empty labels IsUses closed w l.copies 0 l.spots no_group))

-- of a tree of items in which nothing stands below those that are shut
abbrev pub AreLowest : (ℕ → Type 0) → Tree → Type 0
AreLowest IsShut by_number.none = Unit {0}
AreLowest IsShut (by_number.item i below behind) = (IsShut i → below ≡ by_number.none) × (AreLowest IsShut below × AreLowest IsShut behind)

none_of : {X : Type 0} (xs : List X) → length xs ≡ 0 → xs ≡ []
none_of [] e = refl
none_of (x ∷ xs) e = absurd (omega (arith, e))

pub make_lowest : (labels : List Label) (groups : Groups) (IsShut : ℕ → Type 0) → ((p : ℕ) → IsShut p → members_of groups (p + 1) ≡ [])
    → {items : List ℕ} {t : Tree}
    → Make labels groups items t → AreLowest IsShut t
make_lowest labels groups IsShut empty no_items = tt
make_lowest labels groups IsShut empty (one_more_item {i = i} {items = items} order low rest) = (
  (λ is.
      let many = length_permutation (members_of groups (i + 1)) items order.permutation in
      let none_there = ap (λ (xs : List ℕ). length xs) (empty i is) in
      nothing_made (none_of items (omega (arith, many, none_there))) low),
  (make_lowest labels groups IsShut empty low, make_lowest labels groups IsShut empty rest),
)
  where
    nothing_made : {xs : List ℕ} {t : Tree} → xs ≡ [] → Make labels groups xs t → t ≡ by_number.none
    nothing_made e no_items = refl
    nothing_made e (one_more_item order low rest) = absurd (let bad = ap (λ (ys : List ℕ). length ys) e in omega (arith, bad))
