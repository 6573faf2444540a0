-- Items enter one by one.
use Rattle.std.proofs.Common.{◌≡◌, ℕ, suc, ◌+◌, ◌≤◌, Bool, true, false, List, [], ◌∷◌, length, drop, if◌then◌else◌, refl, sym, ◌∙◌, ap, subst, arith, Some, None}
use Rattle.std.specs.List.{slice_get}
use Rattle.std.proofs.lemmas.List.{length-map, length-replicate}
use Rattle.yv_expand.specs.Tree.{Item}
use Rattle.yv_expand_rounds.specs.declared.label.Label.{Label}
use Rattle.yv_expand_rounds.specs.Groups.{group_of_augment, members_of}
use Rattle.yv_expand_rounds.specs.Turns.{State, turn}
use Rattle.yv_expand_rounds.specs.Placements.{nothing, enter, HaveEntered, none_yet, one_turn, one_more}
use Rattle.yv_expand_statements.specs.Kinds.{is_uses}
use Rattle.yv_expand_uses.specs.AugmentOrder.{augments_giving}
use Rattle.yv_expand_uses.specs.Spots.{LayoutView, Whole, copies_of, labels_of, layout_of}
use Rattle.yv_expand_augments.specs.Augmentation.{copy_turn, last_of, placement, placed_from, turns, turns_from}
use Rattle.yv_expand_uses.specs.Paths.{path_in}
use Rattle.yv_expand_uses.specs.declared.spot.Spot.{Spot}
use Rattle.yv_expand_uses.specs.InnerLayout.{AreLaid, Fits}
use Rattle.yv_expand_uses.proofs.Bounds.{laid_whole}
use Rattle.yv_expand_uses.proofs.StatementLists.{rest_of}

abbrev pub KeepAugments : Type 0
KeepAugments = (labels : List Label) (number start limit : ℕ) (names : List ℕ) (st : State) → length (turn labels number start limit names st).ends ≡ length st.ends

module _ (w : Whole) (labels : List Label) (copies : ℕ) where
  pub turns_entered : (s : Spot) (first number : ℕ) (augments : List ℕ) (st : State) → number + length augments ≤ copies → HaveEntered labels copies first st
      → HaveEntered labels copies first (turns_from w labels s number augments st)
  turns_entered s first number [] st l h = h
  turns_entered s first number (a ∷ others) st l h =
      turns_entered s first (number + 1) others (copy_turn w labels s number a st) (omega (arith, l))
      (one_turn number s.group (last_of (members_of st.groups (group_of_augment labels number))) (path_in w s.module_file a) (omega (arith, l)) h)

  pub spot_entered : (s : Spot) (first : ℕ) (st : State) → s.first + copies_of w.rows s ≤ copies → HaveEntered labels copies first st
      → HaveEntered labels copies first (turns w labels s st)
  spot_entered s first st l h = by (is_uses s.label.kind) refl
    where
      by : (b : Bool) → is_uses s.label.kind ≡ b → HaveEntered labels copies first (if b then turns_from w labels s s.first (augments_giving w.rows s.statement) st else st)
      by true is =
          let c : copies_of w.rows s ≡ length (augments_giving w.rows s.statement) = ap (λ (b : Bool). if b then length (augments_giving w.rows s.statement) else 0) is in
          turns_entered s first s.first (augments_giving w.rows s.statement) st (omega (arith, l, c)) h
      by false is = h

  pub placed_entered : (i : ℕ) (ss : List Spot) → w.items ≡ length labels → i + length ss ≡ length labels → ((k : ℕ) (s : Spot) → slice_get ss k ≡ Some s → Fits w copies s)
      → HaveEntered labels copies i (placed_from w labels copies i ss)
  placed_entered i [] whole all fit =
      let end : i ≡ length labels = omega (arith, all) in
      subst (λ (n : ℕ). HaveEntered labels copies n (nothing (length labels) copies)) (sym end) none_yet
  placed_entered i (s ∷ ss) whole all fit =
      let f : Fits w copies s = fit 0 s refl in
      let rest : HaveEntered labels copies (i + 1) (placed_from w labels copies (i + 1) ss) =
      placed_entered (i + 1) ss whole (omega (arith, all)) (λ k t at. fit (suc k) t at) in
      let g = f.group in
      one_more s.group (omega (arith, g, whole)) (spot_entered s (i + 1) (placed_from w labels copies (i + 1) ss) f.copies rest)

  module _ (keep : KeepAugments) where
    pub turns_ends : (s : Spot) (number : ℕ) (augments : List ℕ) (st : State) → length (turns_from w labels s number augments st).ends ≡ length st.ends
    turns_ends s number [] st = refl
    turns_ends s number (a ∷ others) st =
        turns_ends s (number + 1) others (copy_turn w labels s number a st)
        ∙ keep labels number s.group (last_of (members_of st.groups (group_of_augment labels number))) (path_in w s.module_file a) st

    spot_ends : (s : Spot) (st : State) → length (turns w labels s st).ends ≡ length st.ends
    spot_ends s st = by (is_uses s.label.kind)
      where
        by : (b : Bool) → length (if b then turns_from w labels s s.first (augments_giving w.rows s.statement) st else st).ends ≡ length st.ends
        by true = turns_ends s s.first (augments_giving w.rows s.statement) st
        by false = refl

    pub placed_ends : (i : ℕ) (ss : List Spot) → length (placed_from w labels copies i ss).ends ≡ copies
    placed_ends i [] = length-replicate copies None
    placed_ends i (s ∷ ss) = spot_ends s (placed_from w labels copies (i + 1) ss) ∙ placed_ends (i + 1) ss

-- one more item enters
pub placed_more : (w : Whole) (labels : List Label) (copies n left : ℕ) (s : Spot) (spots : List Spot) (ready : State) → left ≡ n + 1 → slice_get spots n ≡ Some s
    → ready ≡ turns w labels s (placed_from w labels copies left (drop left spots)) → enter n s.group ready ≡ placed_from w labels copies n (drop n spots)
placed_more w labels copies n left s spots ready next at is =
    ap (enter n s.group) is ∙ ap (λ (m : ℕ). enter n s.group (turns w labels s (placed_from w labels copies m (drop m spots)))) next
    ∙ ap (placed_from w labels copies n) (sym (rest_of spots n s at))

-- all items have entered
pub whole_entered : (w : Whole) (items : List Item) → length items ≡ w.items → HaveEntered (labels_of (layout_of w items).spots) (layout_of w items).copies 0 (placement w (layout_of w items))
whole_entered w items long =
    let l : LayoutView = layout_of w items in
    let are : AreLaid w l = laid_whole w items long in
    let labels : List Label = labels_of l.spots in
    let count : length labels ≡ length l.spots = length-map l.spots (λ s. s.label) in
    let size = are.long in
    placed_entered w labels l.copies 0 l.spots (omega (arith, size, count)) (omega (arith, count)) are.all
