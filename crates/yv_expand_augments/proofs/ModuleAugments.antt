-- What augments of modules give, from where it enters to the final tree.
use Rattle.std.proofs.Common.{inl, inr, ◌≡◌, ◌≢◌, ℕ, zero, suc, ◌+◌, ◌<◌, ◌≤◌, Bool, true, false, if◌then◌else◌, List, [], ◌∷◌, length, get_or, refl, sym, ◌∙◌, ap, subst, arith, Option, Some, None}
use Rattle.std.specs.List.{slice_get}
use Rattle.std.specs.Option.{option_and_then}
use Rattle.std.proofs.lemmas.List.{get_or-set_other, get_or-replicate, length-map}
use Rattle.std.proofs.lemmas.Option.{same_Some}
use Rattle.yv_expand.specs.Tree.{Item}
use Rattle.yv_expand_rounds.specs.declared.end.End.{End}
use Rattle.yv_expand_rounds.specs.declared.end.End.TheVariants as end
use Rattle.yv_expand_rounds.specs.declared.label.Label.{Label}
use Rattle.yv_expand_rounds.specs.declared.row.ItemRow.{ItemRow}
use Rattle.yv_expand_rounds.specs.Groups.{Groups, IsIn, group_of_augment, members_of}
use Rattle.yv_expand_rounds.specs.Paths.{path_end}
use Rattle.yv_expand_rounds.specs.Placements.{HaveEntered, StandOnce, enter, one_turn}
use Rattle.yv_expand_rounds.specs.Rounds.{AreApplied}
use Rattle.yv_expand_rounds.specs.Tree.{AreRows, IsTree, StandsInTree, Tree, group_under, tree_list}
use Rattle.yv_expand_rounds.specs.Turns.{State, given_group, group_of_target, is_applied, settle, target, target_of, turn}
use Rattle.yv_expand_uses.specs.AugmentOrder.{augments_giving}
use Rattle.yv_expand_augments.specs.Augmentation.{AreAugmented, copy_turn, last_of, placement, placed_from, turns, turns_from}
use Rattle.yv_expand_uses.specs.Paths.{module_paths, path_in}
use Rattle.yv_expand_uses.specs.InnerLayout.{AreLaid, Fits}
use Rattle.yv_expand_statements.specs.Kinds.{is_uses}
use Rattle.yv_expand_uses.specs.Spots.{LayoutView, Whole, copies_of, copy_group, labels_of, layout_of, laid_from, one_more, spot_of}
use Rattle.yv_expand_uses.specs.declared.spot.Spot.{Spot}
use Rattle.yv_expand_uses.proofs.Bounds.{laid_whole, pushed_at}
use Rattle.yv_expand_augments.proofs.ItemEntry.{placed_entered, spot_entered, whole_entered}

-- the laws of augments
abbrev pub Stand : Type 0
Stand = (labels : List Label) (augments first : ℕ) (paths : List (List ℕ)) (old new : State) → HaveEntered labels augments 0 old
    → first + length paths ≤ augments → AreApplied labels first paths old new → StandOnce (length labels) new.groups

pub once_of : Stand → (w : Whole) (items : List Item) (st : State) → w.items ≡ length items → AreAugmented w items st → StandOnce (length items) st.groups
once_of law w items st long g =
    let l : LayoutView = layout_of w items in
    let are : AreLaid w l = laid_whole w items (sym long) in
    let labels : List Label = labels_of l.spots in
    let size : length (module_paths w) ≡ length w.augments = length-map w.augments _ in
    let modules = are.modules in
    let all : length labels ≡ length items = length-map l.spots (λ s. s.label) ∙ are.long ∙ long in
    subst (λ (n : ℕ). StandOnce n st.groups) all
    (law labels l.copies 0 (module_paths w) (placement w l) st (whole_entered w items (sym long)) (omega (arith, size, modules)) g.applied)

-- the copies of augments of uses stand behind the augments of modules
firsts_from : (w : Whole) (base : ℕ) (xs : List Item) (l : LayoutView) → base ≤ l.copies → ((k : ℕ) (s : Spot) → slice_get l.spots k ≡ Some s → base ≤ s.first)
    → (k : ℕ) (s : Spot) → slice_get (laid_from w xs l).spots k ≡ Some s → base ≤ s.first
firsts_from w base [] l le all = all
firsts_from w base (x ∷ xs) l le all =
    let y : Spot = spot_of w l.spots l.copies x in
    firsts_from w base xs (one_more w x l) (omega (arith, le))
    (λ k s at. elim (pushed_at l.spots y s k at) [
      | inl old ↦ all k s old
      | inr same ↦ (let e : l.copies ≡ s.first = ap (λ (z : Spot). z.first) same in omega (arith, le, e))
    ])

firsts : (w : Whole) (items : List Item) (k : ℕ) (s : Spot) → slice_get (layout_of w items).spots k ≡ Some s → length w.augments ≤ s.first
unfolding layout_of
firsts w items =
    firsts_from w (length w.augments) items (record { spots = []; copies = length w.augments }) (omega arith)
    (λ k s at. absurd (let bad : None ≡ Some s = at in cc))

module _ (labels : List Label) (place : ℕ) where
  abbrev Waits : State → Type 0
  Waits st = get_or st.ends place None ≡ None

  settled_waits : (number : ℕ) (o : Option End) (st : State) (b : Bool) → place ≢ number → Waits st → Waits (if b then st else settle labels number o st)
  settled_waits number o st true apart h = h
  settled_waits number None st false apart h = h
  settled_waits number (Some e) st false apart h = get_or-set_other st.ends number place (Some e) None apart ∙ h

  turn_waits : (number start limit : ℕ) (names : List ℕ) (st : State) → place ≢ number → Waits st → Waits (turn labels number start limit names st)
  turn_waits number start limit names st apart h =
      settled_waits number (path_end labels st.groups limit names (end.Start start)) st (is_applied st number) apart h

  module _ (w : Whole) (copies : ℕ) where
    turns_wait : (s : Spot) (number : ℕ) (augments : List ℕ) (st : State) → place < number → Waits st → Waits (turns_from w labels s number augments st)
    turns_wait s number [] st lt h = h
    turns_wait s number (a ∷ others) st lt h =
        turns_wait s (number + 1) others (copy_turn w labels s number a st) (omega (arith, lt))
        (turn_waits number s.group (last_of (members_of st.groups (group_of_augment labels number))) (path_in w s.module_file a) st (λ e. omega (arith, e, lt)) h)

    spot_waits : (s : Spot) (st : State) → place < s.first → Waits st → Waits (turns w labels s st)
    spot_waits s st lt h = by (is_uses s.label.kind)
      where
        by : (b : Bool) → Waits (if b then turns_from w labels s s.first (augments_giving w.rows s.statement) st else st)
        by true = turns_wait s s.first (augments_giving w.rows s.statement) st lt h
        by false = h

    placed_waits : (i : ℕ) (ss : List Spot) → place < copies → ((k : ℕ) (s : Spot) → slice_get ss k ≡ Some s → place < s.first) → Waits (placed_from w labels copies i ss)
    placed_waits i [] lt behind = get_or-replicate copies place None None lt
    placed_waits i (s ∷ ss) lt behind =
        spot_waits s (placed_from w labels copies (i + 1) ss) (behind 0 s refl) (placed_waits (i + 1) ss lt (λ k t at. behind (suc k) t at))

abbrev pub Room : Type 0
Room = (labels : List Label) (augments first : ℕ) (st : State) → HaveEntered labels augments first st → length st.groups ≡ length labels + 1 + augments

abbrev pub Many : Type 0
Many = (labels : List Label) (augments first : ℕ) (st : State) → HaveEntered labels augments first st → length st.ends ≡ augments

abbrev pub Enters : Type 0
Enters = (i g : ℕ) (st : State) → g < length st.groups → IsIn i g (enter i g st).groups

abbrev pub Stays : Type 0
Stays = (i g other h : ℕ) (st : State) → IsIn i g st.groups → IsIn i g (enter other h st).groups

abbrev pub Turned : Type 0
Turned = (labels : List Label) (number start limit augment item : ℕ) (names : List ℕ) (st : State) → length st.groups ≡ length labels + 1 + length st.ends
    → number < length st.ends → augment < length st.ends → IsIn item (given_group labels st.ends augment) st.groups
    → IsIn item (given_group labels (turn labels number start limit names st).ends augment) (turn labels number start limit names st).groups

abbrev pub Applied : Type 0
Applied = (labels : List Label) (first augment item : ℕ) (paths : List (List ℕ)) (old new : State) → AreApplied labels first paths old new
    → length old.groups ≡ length labels + 1 + length old.ends → first + length paths ≤ length old.ends → augment < length old.ends
    → IsIn item (given_group labels old.ends augment) old.groups → IsIn item (given_group labels new.ends augment) new.groups

module _ (w : Whole) (labels : List Label) (copies place item : ℕ) (within : place < copies)
    (room : Room) (many : Many) (enters : Enters) (stays : Stays) (turned_law : Turned) where
  abbrev Follows : State → Type 0
  Follows st = IsIn item (given_group labels st.ends place) st.groups

  turns_follow : (s : Spot) (first number : ℕ) (augments : List ℕ) (st : State) → number + length augments ≤ copies → HaveEntered labels copies first st → Follows st
      → Follows (turns_from w labels s number augments st)
  turns_follow s first number [] st le h is = is
  turns_follow s first number (a ∷ others) st le h is =
      let limit : ℕ = last_of (members_of st.groups (group_of_augment labels number)) in
      let path : List ℕ = path_in w s.module_file a in
      let e = many labels copies first st h in
      let g = room labels copies first st h in
      turns_follow s first (number + 1) others (copy_turn w labels s number a st) (omega (arith, le))
      (one_turn number s.group limit path (omega (arith, le)) h)
      (turned_law labels number s.group limit place item path st (omega (arith, e, g)) (omega (arith, e, le)) (omega (arith, e, within)) is)

  spot_follows : (s : Spot) (first : ℕ) (st : State) → s.first + copies_of w.rows s ≤ copies → HaveEntered labels copies first st → Follows st → Follows (turns w labels s st)
  spot_follows s first st le h is = by (is_uses s.label.kind) refl
    where
      by : (b : Bool) → is_uses s.label.kind ≡ b → Follows (if b then turns_from w labels s s.first (augments_giving w.rows s.statement) st else st)
      by true same =
          let c : copies_of w.rows s ≡ length (augments_giving w.rows s.statement) = ap (λ (b : Bool). if b then length (augments_giving w.rows s.statement) else 0) same in
          turns_follow s first s.first (augments_giving w.rows s.statement) st (omega (arith, le, c)) h is
      by false same = is

  placed_follow : (i k : ℕ) (s : Spot) (ss : List Spot) → w.items ≡ length labels → i + length ss ≡ length labels
      → ((j : ℕ) (t : Spot) → slice_get ss j ≡ Some t → Fits w copies t) → ((j : ℕ) (t : Spot) → slice_get ss j ≡ Some t → place < t.first)
      → item ≡ i + k → slice_get ss k ≡ Some s → s.group ≡ group_of_augment labels place → Follows (placed_from w labels copies i ss)
  placed_follow i k s [] whole all fit behind at there own = absurd (let bad : None ≡ Some s = there in cc)
  placed_follow i zero s (t ∷ ss) whole all fit behind at there own =
      let before : State = placed_from w labels copies (i + 1) ss in
      let f : Fits w copies t = fit 0 t refl in
      let h : HaveEntered labels copies (i + 1) before = placed_entered w labels copies (i + 1) ss whole (omega (arith, all)) (λ j u there. fit (suc j) u there) in
      let st : State = turns w labels t before in
      let stands : HaveEntered labels copies (i + 1) st = spot_entered w labels copies t (i + 1) before f.copies h in
      let waits : get_or st.ends place None ≡ None =
      spot_waits labels place w copies t before (behind 0 t refl) (placed_waits labels place w copies (i + 1) ss within (λ j u there. behind (suc j) u there)) in
      let g = room labels copies (i + 1) st stands in
      let size = f.group in
      let mine : t.group ≡ group_of_augment labels place = ap (λ (u : Spot). u.group) (same_Some t s there) ∙ own in
      let here : IsIn i t.group (enter i t.group st).groups = enters i t.group st (omega (arith, g, size, whole)) in
      let same : given_group labels st.ends place ≡ t.group =
      ap (λ (o : Option End). group_of_target (group_of_augment labels place) (option_and_then (target labels) o)) waits ∙ sym mine in
      let number : i ≡ item = omega (arith, at) in
      subst (λ (n : ℕ). IsIn n (given_group labels st.ends place) (enter i t.group st).groups) number
      (subst (λ (n : ℕ). IsIn i n (enter i t.group st).groups) (sym same) here)
  placed_follow i (suc k) s (t ∷ ss) whole all fit behind at there own =
      let before : State = placed_from w labels copies (i + 1) ss in
      let f : Fits w copies t = fit 0 t refl in
      let h : HaveEntered labels copies (i + 1) before = placed_entered w labels copies (i + 1) ss whole (omega (arith, all)) (λ j u there. fit (suc j) u there) in
      let st : State = turns w labels t before in
      let rest : Follows before =
      placed_follow (i + 1) k s ss whole (omega (arith, all)) (λ j u there. fit (suc j) u there) (λ j u there. behind (suc j) u there) (omega (arith, at)) there own in
      stays item (given_group labels st.ends place) i t.group st (spot_follows t (i + 1) before f.copies h rest)

abbrev pub Below : Type 0
Below = (labels : List Label) (groups : Groups) (k : ℕ) (row : ItemRow) (t : Tree) → IsTree labels groups t → slice_get (tree_list None 1 t) k ≡ Some row
    → IsIn row.number (group_under row.parent) groups

abbrev pub One : Type 0
One = (groups : Groups) (items i g h : ℕ) → StandOnce items groups → IsIn i g groups → IsIn i h groups → g ≡ h

abbrev pub Within : Type 0
Within = (labels : List Label) (groups : Groups) (items k : ℕ) (row : ItemRow) (t : Tree) → IsTree labels groups t → StandOnce items groups → slice_get (tree_list None 1 t) k ≡ Some row
    → row.number < items

abbrev pub ParentsFirst : Type 0
ParentsFirst = (labels : List Label) (groups : Groups) (rows : List ItemRow) (k : ℕ) (row : ItemRow) → AreRows labels groups rows → slice_get rows k ≡ Some row → StandsInTree rows k row

-- the item above one of a tree is one of the items
above_within : Within → ParentsFirst → (labels : List Label) (groups : Groups) (items k p : ℕ) (row : ItemRow) (t : Tree) → IsTree labels groups t → StandOnce items groups
    → slice_get (tree_list None 1 t) k ≡ Some row → row.parent ≡ Some p → p < items
above_within law parents labels groups items k p row t is s at up =
    let rows : AreRows labels groups (tree_list None 1 t) = record { tree = t; is_tree = is; rows_are = refl } in
    elim (parents labels groups (tree_list None 1 t) k row rows at) [
      | inl top ↦ absurd (let bad : None ≡ Some p = sym top.0 ∙ up in cc)
      | inr below ↦
          let lt : below.above.number < items = law labels groups items below.place below.above t is s below.at in
          let same : below.above.number ≡ p = same_Some below.above.number p (sym below.parent ∙ up) in
          omega (arith, lt, same)
    ]

-- a row whose group is that of what an augment gives stands below the target
below_target : (items place : ℕ) (parent o : Option ℕ) → ((p : ℕ) → parent ≡ Some p → p < items) → group_under parent ≡ group_of_target (items + 1 + place) o
    → (p : ℕ) × (parent ≡ Some p) × (o ≡ Some p)
below_target items place None None fits e = absurd (omega (arith, e))
below_target items place None (Some i) fits e = absurd (omega (arith, e))
below_target items place (Some p) None fits e = absurd (let l = fits p refl in omega (arith, e, l))
below_target items place (Some p) (Some i) fits e = (p, refl, ap (λ (n : ℕ). Some n) (let same : i ≡ p = omega (arith, e) in same))

pub given_below : Stand → Room → Many → Enters → Stays → Turned → Applied → Below → One → Within → ParentsFirst
    → (w : Whole) (items : List Item) (st : State) (t : Tree) (k place : ℕ) (row : ItemRow) (s : Spot) → w.items ≡ length items → AreAugmented w items st
    → IsTree (labels_of (layout_of w items).spots) st.groups t → slice_get (tree_list None 1 t) k ≡ Some row → slice_get (layout_of w items).spots row.number ≡ Some s → place < length w.augments
    → s.group ≡ copy_group w place → (p : ℕ) × (row.parent ≡ Some p) × (target_of (labels_of (layout_of w items).spots) st.ends place ≡ Some p)
given_below stand room many enters stays turned_law applied below one within parents w items st t k place row s long g is at there lt own =
    let l : LayoutView = layout_of w items in
    let are : AreLaid w l = laid_whole w items (sym long) in
    let labels : List Label = labels_of l.spots in
    let modules = are.modules in
    let count : length labels ≡ length l.spots = length-map l.spots (λ x. x.label) in
    let size = are.long in
    let whole : w.items ≡ length labels = omega (arith, size, count) in
    let fits : place < l.copies = omega (arith, modules, lt) in
    let old : State = placement w l in
    let mine : s.group ≡ group_of_augment labels place = own ∙ ap (λ (n : ℕ). n + 1 + place) whole in
    let first : IsIn row.number (given_group labels old.ends place) old.groups =
    placed_follow w labels l.copies place row.number fits room many enters stays turned_law 0 row.number s l.spots whole (omega (arith, count)) are.all
    (λ j u h. (let f = firsts w items j u h in omega (arith, f, lt))) (omega arith) there mine in
    let h : HaveEntered labels l.copies 0 old = whole_entered w items (sym long) in
    let e = many labels l.copies 0 old h in
    let r = room labels l.copies 0 old h in
    let paths : length (module_paths w) ≡ length w.augments = length-map w.augments _ in
    let last : IsIn row.number (given_group labels st.ends place) st.groups =
    applied labels 0 place row.number (module_paths w) old st g.applied (omega (arith, e, r)) (omega (arith, e, paths, modules)) (omega (arith, e, fits)) first in
    let once : StandOnce (length items) st.groups = once_of stand w items st long g in
    let same : group_under row.parent ≡ given_group labels st.ends place =
    one st.groups (length items) row.number (group_under row.parent) (given_group labels st.ends place) once (below labels st.groups k row t is at) last in
    below_target (length labels) place row.parent (target_of labels st.ends place)
    (λ p up. (let a = above_within within parents labels st.groups (length items) k p row t is once at up in omega (arith, a, whole, long))) same
