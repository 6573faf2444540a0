-- What copies of augments of uses give, from where it enters to the final tree.
use Rattle.std.proofs.Common.{inl, inr, ◌≡◌, ℕ, zero, suc, ◌+◌, ◌<◌, ◌≤◌, Bool, true, if◌then◌else◌, List, [], ◌∷◌, length, get_or, Option, Some, None, refl, sym, ◌∙◌, ap, subst, arith}
use Rattle.std.specs.List.{slice_get}
use Rattle.std.specs.Option.{option_and_then}
use Rattle.std.proofs.lemmas.List.{append-nil, get_or-replicate, length-map}
use Rattle.std.proofs.lemmas.Option.{same_Some}
use Rattle.yv_expand.specs.Tree.{Item}
use Rattle.yv_expand_rounds.specs.declared.end.End.{End}
use Rattle.yv_expand_rounds.specs.declared.label.Label.{Label}
use Rattle.yv_expand_rounds.specs.declared.row.ItemRow.{ItemRow}
use Rattle.yv_expand_rounds.specs.Groups.{Groups, IsIn, group_of_augment}
use Rattle.yv_expand_rounds.specs.Placements.{HaveEntered, StandOnce, enter}
use Rattle.yv_expand_rounds.specs.Rounds.{AreApplied}
use Rattle.yv_expand_rounds.specs.Tree.{AreRows, IsTree, StandsInTree, Tree, group_under, tree_list}
use Rattle.yv_expand_rounds.specs.Turns.{State, given_group, group_of_target, target, target_of, turn}
use Rattle.yv_expand_uses.specs.AugmentOrder.{augments_giving, is_giving}
use Rattle.yv_expand_augments.specs.Augmentation.{AreAugmented, placement, placed_from, turns}
use Rattle.yv_expand_uses.specs.Paths.{module_paths}
use Rattle.yv_expand_uses.specs.InnerLayout.{AreLaid, Fits}
use Rattle.yv_expand_statements.specs.Kinds.{is_uses}
use Rattle.yv_expand_uses.specs.Spots.{LayoutView, Whole, copies_of, copy_group, labels_of, layout_of}
use Rattle.yv_expand_uses.specs.AugmentOrder.{augments_in}
use Rattle.yv_expand_augments.specs.MissingTargets.{next_number}
use Rattle.yv_expand_uses.specs.declared.spot.Spot.{Spot}
use Rattle.yv_expand_uses.proofs.Bounds.{laid_whole}
use Rattle.yv_expand_augments.proofs.ItemEntry.{placed_entered, spot_entered, whole_entered}
use Rattle.yv_expand_augments.proofs.ModuleAugments.{once_of}
use Rattle.yv_expand_augments.proofs.AugmentTurns.{number_within}
use Rattle.yv_expand_laws.specs.CopiesGive.{CopiesGive}
use Rattle.yv_expand_laws.specs.CopyEnds.{CopiesEnd}
use Rattle.yv_expand_laws.proofs.CopyEnds.{placed_keeps, rises, spot_keeps}
use Rattle.yv_expand_laws.proofs.FoundItems.{not_none}
use Rattle.yv_expand_laws.proofs.Onward.{KeptInTurns, KeptOnEntry, spot_holds}
use Rattle.yv_expand_laws.proofs.Parents.{Below, Enters, Many, One, Room, Stand, Stays}

abbrev pub Turned : Type 0
Turned = (labels : List Label) (number start limit augment item : ℕ) (names : List ℕ) (st : State) → length st.groups ≡ length labels + 1 + length st.ends
    → number < length st.ends → augment < length st.ends → IsIn item (given_group labels st.ends augment) st.groups
    → IsIn item (given_group labels (turn labels number start limit names st).ends augment) (turn labels number start limit names st).groups

abbrev pub Applied : Type 0
Applied = (labels : List Label) (first augment item : ℕ) (paths : List (List ℕ)) (old new : State) → AreApplied labels first paths old new
    → length old.groups ≡ length labels + 1 + length old.ends → first + length paths ≤ length old.ends → augment < length old.ends
    → IsIn item (given_group labels old.ends augment) old.groups → IsIn item (given_group labels new.ends augment) new.groups

abbrev pub Within : Type 0
Within = (labels : List Label) (groups : Groups) (items k : ℕ) (row : ItemRow) (t : Tree) → IsTree labels groups t → StandOnce items groups → slice_get (tree_list None 1 t) k ≡ Some row
    → row.number < items

abbrev pub ParentsFirst : Type 0
ParentsFirst = (labels : List Label) (groups : Groups) (rows : List ItemRow) (k : ℕ) (row : ItemRow) → AreRows labels groups rows → slice_get rows k ≡ Some row → StandsInTree rows k row

module _ (w : Whole) (labels : List Label) (copies place item : ℕ) (within : place < copies)
    (room : Room) (many : Many) (enters : Enters) (stays : Stays) (turned_law : Turned) where
  abbrev Follows : State → Type 0
  Follows st = IsIn item (given_group labels st.ends place) st.groups

  pub follows_in_turns : KeptInTurns labels copies Follows
  follows_in_turns first number start limit names st less h is =
      let e = many labels copies first st h in
      let g = room labels copies first st h in
      turned_law labels number start limit place item names st (omega (arith, e, g)) (omega (arith, e, less)) (omega (arith, e, within)) is

  pub follows_on_entry : KeptOnEntry Follows
  follows_on_entry j g st is = stays item (given_group labels st.ends place) j g st is

  -- from where it enters on, when no later item has copies of this number
  pub placed_follows : (i k : ℕ) (s : Spot) (ss : List Spot) → w.items ≡ length labels → i + length ss ≡ length labels
      → ((j : ℕ) (t : Spot) → slice_get ss j ≡ Some t → Fits w copies t) → ((j : ℕ) (t : Spot) → k ≤ j → slice_get ss j ≡ Some t → place < t.first)
      → item ≡ i + k → slice_get ss k ≡ Some s → s.group ≡ group_of_augment labels place → Follows (placed_from w labels copies i ss)
  placed_follows i k s [] whole all fit behind at there own = absurd (not_none there)
  placed_follows i zero s (t ∷ ss) whole all fit behind at there own =
      let before : State = placed_from w labels copies (i + 1) ss in
      let f : Fits w copies t = fit 0 t refl in
      let h : HaveEntered labels copies (i + 1) before = placed_entered w labels copies (i + 1) ss whole (omega (arith, all)) (λ j u there. fit (suc j) u there) in
      let st : State = turns w labels t before in
      let waits_first : get_or before.ends place None ≡ None =
      subst (λ (z : List Spot). get_or (placed_from w labels copies (i + 1) z).ends place None ≡ None) (append-nil ss)
      (placed_keeps labels place w copies None (i + 1) (i + 1 + length ss) ss [] (λ j u there. inl (behind (suc j) u (omega arith) there)) refl (get_or-replicate copies place None None within)) in
      let waits : get_or st.ends place None ≡ None = spot_keeps labels place w copies None t before (inl (behind 0 t (omega arith) refl)) waits_first in
      let g = room labels copies (i + 1) st (spot_entered w labels copies t (i + 1) before f.copies h) in
      let size = f.group in
      let mine : t.group ≡ group_of_augment labels place = ap (λ (u : Spot). u.group) (same_Some t s there) ∙ own in
      let here : IsIn i t.group (enter i t.group st).groups = enters i t.group st (omega (arith, g, size, whole)) in
      let same : given_group labels st.ends place ≡ t.group =
      ap (λ (o : Option End). group_of_target (group_of_augment labels place) (option_and_then (target labels) o)) waits ∙ sym mine in
      let number : i ≡ item = omega (arith, at) in
      subst (λ (n : ℕ). IsIn n (given_group labels st.ends place) (enter i t.group st).groups) number
      (subst (λ (n : ℕ). IsIn i n (enter i t.group st).groups) (sym same) here)
  placed_follows i (suc k) s (t ∷ ss) whole all fit behind at there own =
      let before : State = placed_from w labels copies (i + 1) ss in
      let f : Fits w copies t = fit 0 t refl in
      let h : HaveEntered labels copies (i + 1) before = placed_entered w labels copies (i + 1) ss whole (omega (arith, all)) (λ j u there. fit (suc j) u there) in
      let st : State = turns w labels t before in
      let rest : Follows before =
      placed_follows (i + 1) k s ss whole (omega (arith, all)) (λ j u there. fit (suc j) u there) (λ j u le there. behind (suc j) u (omega (arith, le)) there) (omega (arith, at)) there own in
      follows_on_entry i t.group st (spot_holds w labels copies Follows follows_in_turns follows_on_entry t (i + 1) before f.copies h rest)

-- the item above one of a tree is one of the items
above_within : Within → ParentsFirst → (labels : List Label) (groups : Groups) (items k p : ℕ) (row : ItemRow) (t : Tree) → IsTree labels groups t → StandOnce items groups
    → slice_get (tree_list None 1 t) k ≡ Some row → row.parent ≡ Some p → p < items
above_within law parents labels groups items k p row t is s at up =
    let rows : AreRows labels groups (tree_list None 1 t) = record { tree = t; is_tree = is; rows_are = refl } in
    elim (parents labels groups (tree_list None 1 t) k row rows at) [
      | inl top ↦ absurd (not_none (sym top.0 ∙ up))
      | inr below ↦
          let lt : below.above.number < items = law labels groups items below.place below.above t is s below.at in
          let same : below.above.number ≡ p = same_Some below.above.number p (sym below.parent ∙ up) in
          omega (arith, lt, same)
    ]

-- a row whose group is that of what an augment gives stands below the target
below_target : (items place : ℕ) (parent o : Option ℕ) → ((p : ℕ) → parent ≡ Some p → p < items) → group_under parent ≡ group_of_target (items + 1 + place) o
    → (p : ℕ) × (parent ≡ Some p) × (o ≡ Some p)
below_target items place None None fits e = absurd (omega (arith, e))
below_target items place None (Some i) fits e = absurd (omega (arith, e))
below_target items place (Some p) None fits e = absurd (let l = fits p refl in omega (arith, e, l))
below_target items place (Some p) (Some i) fits e = (p, refl, ap (λ (n : ℕ). Some n) (let same : i ≡ p = omega (arith, e) in same))

-- an item that was where what a copy gives is before the rounds is there in the end
pub follows_after : Room → Many → Applied → (w : Whole) (items : List Item) (st : State) (i c : ℕ) → w.items ≡ length items → AreAugmented w items st → c < (layout_of w items).copies
    → IsIn i (given_group (labels_of (layout_of w items).spots) (placement w (layout_of w items)).ends c) (placement w (layout_of w items)).groups
    → IsIn i (given_group (labels_of (layout_of w items).spots) st.ends c) st.groups
follows_after room many applied w items st i c long grafted fits first =
    let l : LayoutView = layout_of w items in
    let are : AreLaid w l = laid_whole w items (sym long) in
    let labels : List Label = labels_of l.spots in
    let modules = are.modules in
    let old : State = placement w l in
    let h : HaveEntered labels l.copies 0 old = whole_entered w items (sym long) in
    let e = many labels l.copies 0 old h in
    let r = room labels l.copies 0 old h in
    let paths : length (module_paths w) ≡ length w.augments = length-map w.augments _ in
    applied labels 0 c i (module_paths w) old st grafted.applied (omega (arith, e, r)) (omega (arith, e, paths, modules)) (omega (arith, e, fits)) first

-- so is one that is laid in the group of the copy
pub follows_laid : Room → Many → Enters → Stays → Turned → Applied → (w : Whole) (items : List Item) (st : State) (i c : ℕ) (s : Spot) → w.items ≡ length items → AreAugmented w items st
    → slice_get (layout_of w items).spots i ≡ Some s → c < (layout_of w items).copies
    → ((j : ℕ) (u : Spot) → i ≤ j → slice_get (layout_of w items).spots j ≡ Some u → c < u.first) → s.group ≡ copy_group w c
    → IsIn i (given_group (labels_of (layout_of w items).spots) st.ends c) st.groups
follows_laid room many enters stays turned_law applied w items st i c s long grafted at fits behind own =
    let l : LayoutView = layout_of w items in
    let are : AreLaid w l = laid_whole w items (sym long) in
    let labels : List Label = labels_of l.spots in
    let count : length labels ≡ length l.spots = length-map l.spots (λ x. x.label) in
    let size = are.long in
    let whole : w.items ≡ length labels = omega (arith, size, count) in
    let mine : s.group ≡ group_of_augment labels c = own ∙ ap (λ (n : ℕ). n + 1 + c) whole in
    follows_after room many applied w items st i c long grafted fits
    (placed_follows w labels l.copies c i fits room many enters stays turned_law 0 i s l.spots whole (omega (arith, count)) are.all behind (omega arith) at mine)

-- the copy of an augment has a number, and no later item has copies of this number
pub copy_fits : (w : Whole) (items : List Item) (i place augment : ℕ) (s : Spot) → w.items ≡ length items → slice_get (layout_of w items).spots i ≡ Some s
    → is_uses s.label.kind ≡ true → slice_get (augments_in w.rows s.statement) place ≡ Some augment → is_giving w.rows s.statement augment ≡ true
    → (next_number w.rows s place < (layout_of w items).copies)
    × ((j : ℕ) (u : Spot) → i < j → slice_get (layout_of w items).spots j ≡ Some u → next_number w.rows s place < u.first)
copy_fits w items i place a s long at uses_is at_a gives =
    let are : AreLaid w (layout_of w items) = laid_whole w items (sym long) in
    let its : copies_of w.rows s ≡ length (augments_giving w.rows s.statement) = ap (λ (c : Bool). if c then length (augments_giving w.rows s.statement) else 0) uses_is in
    let few = number_within w.rows s place a at_a gives in
    let fit = (are.all i s at).copies in
    (omega (arith, few, its, fit), λ j u less there. (let r = rises w items i j s u less at there in omega (arith, r, its, few)))

pub copies_give : Stand → Room → Many → Enters → Stays → Turned → Applied → Below → One → Within → ParentsFirst → CopiesEnd → CopiesGive
copies_give stand room many enters stays turned_law applied below one within parents ends_there w items st t k i place a row s given long g is at there at_s behind uses_is at_a gives own =
    let l : LayoutView = layout_of w items in
    let are : AreLaid w l = laid_whole w items (sym long) in
    let labels : List Label = labels_of l.spots in
    let number : ℕ = next_number w.rows s place in
    let count : length labels ≡ length l.spots = length-map l.spots (λ x. x.label) in
    let size = are.long in
    let whole : w.items ≡ length labels = omega (arith, size, count) in
    let (fits, later) = copy_fits w items i place a s long at_s uses_is at_a gives in
    let last : IsIn row.number (given_group labels st.ends number) st.groups =
    follows_laid room many enters stays turned_law applied w items st row.number number given long g there fits (λ j u le h. later j u (omega (arith, le, behind)) h) own in
    let once : StandOnce (length items) st.groups = once_of stand w items st long g in
    let same : group_under row.parent ≡ given_group labels st.ends number =
    one st.groups (length items) row.number (group_under row.parent) (given_group labels st.ends number) once (below labels st.groups k row t is at) last in
    let (p, up, refine_targets) = below_target (length labels) number row.parent (target_of labels st.ends number)
    (λ q parent. (let b = above_within within parents labels st.groups (length items) k q row t is once at parent in omega (arith, b, whole, long))) same in
    (p, up, sym (ends_there w items st i place a s long g at_s uses_is at_a gives) ∙ refine_targets)
