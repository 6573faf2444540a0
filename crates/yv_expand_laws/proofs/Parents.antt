-- An item that is laid below a node stands below it in the final tree.
use Rattle.std.proofs.Common.{◌≡◌, ℕ, zero, suc, ◌+◌, ◌<◌, ◌≤◌, List, [], ◌∷◌, length, refl, sym, ◌∙◌, ap, subst, arith, Option, Some, None}
use Rattle.std.specs.List.{slice_get}
use Rattle.std.proofs.lemmas.List.{length-map}
use Rattle.std.proofs.lemmas.Option.{same_Some}
use Rattle.yv_expand.specs.Tree.{Item}
use Rattle.yv_expand_rounds.specs.declared.label.Label.{Label}
use Rattle.yv_expand_rounds.specs.declared.row.ItemRow.{ItemRow}
use Rattle.yv_expand_rounds.specs.Groups.{Groups, IsIn}
use Rattle.yv_expand_rounds.specs.Placements.{HaveEntered, StandOnce, enter}
use Rattle.yv_expand_rounds.specs.Rounds.{AreApplied}
use Rattle.yv_expand_rounds.specs.Tree.{IsTree, Tree, group_under, tree_list}
use Rattle.yv_expand_rounds.specs.Turns.{State, turn}
use Rattle.yv_expand_augments.specs.Augmentation.{AreAugmented, placement, placed_from, turns}
use Rattle.yv_expand_uses.specs.Paths.{module_paths}
use Rattle.yv_expand_uses.specs.InnerLayout.{AreLaid, Fits}
use Rattle.yv_expand_uses.specs.Spots.{LayoutView, Whole, labels_of, layout_of}
use Rattle.yv_expand_uses.specs.declared.spot.Spot.{Spot}
use Rattle.yv_expand_uses.proofs.Bounds.{laid_whole}
use Rattle.yv_expand_augments.proofs.ItemEntry.{placed_entered, spot_entered, whole_entered}
use Rattle.yv_expand_augments.proofs.ModuleAugments.{once_of}
use Rattle.yv_expand_laws.proofs.FoundItems.{not_none}
use Rattle.yv_expand_laws.proofs.Onward.{KeptInTurns, KeptOnEntry, spot_holds}

-- the laws of augments
abbrev pub Stand : Type 0
Stand = (labels : List Label) (augments first : ℕ) (paths : List (List ℕ)) (old new : State) → HaveEntered labels augments 0 old
    → first + length paths ≤ augments → AreApplied labels first paths old new → StandOnce (length labels) new.groups

abbrev pub Room : Type 0
Room = (labels : List Label) (augments first : ℕ) (st : State) → HaveEntered labels augments first st → length st.groups ≡ length labels + 1 + augments

abbrev pub Many : Type 0
Many = (labels : List Label) (augments first : ℕ) (st : State) → HaveEntered labels augments first st → length st.ends ≡ augments

abbrev pub Enters : Type 0
Enters = (i g : ℕ) (st : State) → g < length st.groups → IsIn i g (enter i g st).groups

abbrev pub Stays : Type 0
Stays = (i g other h : ℕ) (st : State) → IsIn i g st.groups → IsIn i g (enter other h st).groups

abbrev pub Turned : Type 0
Turned = (labels : List Label) (number start limit group item : ℕ) (names : List ℕ) (st : State) → length st.groups ≡ length labels + 1 + length st.ends
    → number < length st.ends → group ≤ length labels → IsIn item group st.groups → IsIn item group (turn labels number start limit names st).groups

abbrev pub Applied : Type 0
Applied = (labels : List Label) (first group item : ℕ) (paths : List (List ℕ)) (old new : State) → AreApplied labels first paths old new
    → length old.groups ≡ length labels + 1 + length old.ends → first + length paths ≤ length old.ends → group ≤ length labels → IsIn item group old.groups
    → IsIn item group new.groups

abbrev pub Below : Type 0
Below = (labels : List Label) (groups : Groups) (k : ℕ) (row : ItemRow) (t : Tree) → IsTree labels groups t → slice_get (tree_list None 1 t) k ≡ Some row
    → IsIn row.number (group_under row.parent) groups

abbrev pub One : Type 0
One = (groups : Groups) (items i g h : ℕ) → StandOnce items groups → IsIn i g groups → IsIn i h groups → g ≡ h

module _ (w : Whole) (labels : List Label) (copies group item : ℕ) (low : group ≤ length labels)
    (room : Room) (many : Many) (enters : Enters) (stays : Stays) (turned_law : Turned) where
  abbrev Here : State → Type 0
  Here st = IsIn item group st.groups

  pub stays_in_turns : KeptInTurns labels copies Here
  stays_in_turns first number start limit names st less h is =
      let e = many labels copies first st h in
      let g = room labels copies first st h in
      turned_law labels number start limit group item names st (omega (arith, e, g)) (omega (arith, e, less)) low is

  pub stays_on_entry : KeptOnEntry Here
  stays_on_entry j g st is = stays item group j g st is

  placed_stays : (i k : ℕ) (s : Spot) (ss : List Spot) → w.items ≡ length labels → i + length ss ≡ length labels
      → ((j : ℕ) (t : Spot) → slice_get ss j ≡ Some t → Fits w copies t) → item ≡ i + k → slice_get ss k ≡ Some s → s.group ≡ group → Here (placed_from w labels copies i ss)
  placed_stays i k s [] whole all fit at there own = absurd (not_none there)
  placed_stays i zero s (t ∷ ss) whole all fit at there own =
      let before : State = placed_from w labels copies (i + 1) ss in
      let f : Fits w copies t = fit 0 t refl in
      let h : HaveEntered labels copies (i + 1) before = placed_entered w labels copies (i + 1) ss whole (omega (arith, all)) (λ j u there. fit (suc j) u there) in
      let st : State = turns w labels t before in
      let g = room labels copies (i + 1) st (spot_entered w labels copies t (i + 1) before f.copies h) in
      let size = f.group in
      let mine : t.group ≡ group = ap (λ (u : Spot). u.group) (same_Some t s there) ∙ own in
      let here : IsIn i t.group (enter i t.group st).groups = enters i t.group st (omega (arith, g, size, whole)) in
      let number : i ≡ item = omega (arith, at) in
      subst (λ (n : ℕ). IsIn n group (enter i t.group st).groups) number (subst (λ (n : ℕ). IsIn i n (enter i t.group st).groups) mine here)
  placed_stays i (suc k) s (t ∷ ss) whole all fit at there own =
      let before : State = placed_from w labels copies (i + 1) ss in
      let f : Fits w copies t = fit 0 t refl in
      let h : HaveEntered labels copies (i + 1) before = placed_entered w labels copies (i + 1) ss whole (omega (arith, all)) (λ j u there. fit (suc j) u there) in
      let rest : Here before = placed_stays (i + 1) k s ss whole (omega (arith, all)) (λ j u there. fit (suc j) u there) (omega (arith, at)) there own in
      stays_on_entry i t.group (turns w labels t before) (spot_holds w labels copies Here stays_in_turns stays_on_entry t (i + 1) before f.copies h rest)

under_is : (parent : Option ℕ) (p : ℕ) → group_under parent ≡ p + 1 → parent ≡ Some p
under_is None p e = absurd (omega (arith, e))
under_is (Some q) p e = ap (λ (n : ℕ). Some n) (let same : q ≡ p = omega (arith, e) in same)

-- an item that stood at the top or below a node before the rounds stands there in the end
pub stays_after : Room → Many → Applied → (w : Whole) (items : List Item) (st : State) (i g : ℕ) → w.items ≡ length items → AreAugmented w items st → g ≤ length items
    → IsIn i g (placement w (layout_of w items)).groups → IsIn i g st.groups
stays_after room many applied w items st i g long grafted le first =
    let l : LayoutView = layout_of w items in
    let are : AreLaid w l = laid_whole w items (sym long) in
    let labels : List Label = labels_of l.spots in
    let modules = are.modules in
    let count : length labels ≡ length l.spots = length-map l.spots (λ x. x.label) in
    let size = are.long in
    let low : g ≤ length labels = omega (arith, le, size, count, long) in
    let old : State = placement w l in
    let h : HaveEntered labels l.copies 0 old = whole_entered w items (sym long) in
    let e = many labels l.copies 0 old h in
    let r = room labels l.copies 0 old h in
    let paths : length (module_paths w) ≡ length w.augments = length-map w.augments _ in
    applied labels 0 g i (module_paths w) old st grafted.applied (omega (arith, e, r)) (omega (arith, e, paths, modules)) low first

-- so does one that is laid there
pub stays_laid : Room → Many → Enters → Stays → Turned → Applied → (w : Whole) (items : List Item) (st : State) (i g : ℕ) (s : Spot) → w.items ≡ length items → AreAugmented w items st
    → slice_get (layout_of w items).spots i ≡ Some s → g ≤ length items → s.group ≡ g → IsIn i g st.groups
stays_laid room many enters stays turned_law applied w items st i g s long grafted at le own =
    let l : LayoutView = layout_of w items in
    let are : AreLaid w l = laid_whole w items (sym long) in
    let labels : List Label = labels_of l.spots in
    let count : length labels ≡ length l.spots = length-map l.spots (λ x. x.label) in
    let size = are.long in
    let whole : w.items ≡ length labels = omega (arith, size, count) in
    stays_after room many applied w items st i g long grafted le
    (placed_stays w labels l.copies g i (omega (arith, le, whole, long)) room many enters stays turned_law 0 i s l.spots whole (omega (arith, count)) are.all (omega arith) at own)

pub stands_below : Stand → Room → Many → Enters → Stays → Turned → Applied → Below → One
    → (w : Whole) (items : List Item) (st : State) (t : Tree) (k p : ℕ) (row : ItemRow) (s : Spot) → w.items ≡ length items → AreAugmented w items st
    → IsTree (labels_of (layout_of w items).spots) st.groups t → slice_get (tree_list None 1 t) k ≡ Some row → slice_get (layout_of w items).spots row.number ≡ Some s → p < length items
    → s.group ≡ p + 1 → row.parent ≡ Some p
stands_below stand room many enters stays turned_law applied below one w items st t k p row s long g is at there lt own =
    let last : IsIn row.number (p + 1) st.groups = stays_laid room many enters stays turned_law applied w items st row.number (p + 1) s long g there (omega (arith, lt)) own in
    let once : StandOnce (length items) st.groups = once_of stand w items st long g in
    under_is row.parent p
    (one st.groups (length items) row.number (group_under row.parent) (p + 1) once (below (labels_of (layout_of w items).spots) st.groups k row t is at) last)
