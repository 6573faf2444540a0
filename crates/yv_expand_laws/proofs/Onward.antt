-- What no turn of an augment and no item that enters changes is so on through the items that enter.
use Rattle.std.proofs.Common.{◌≡◌, ℕ, suc, ◌+◌, ◌<◌, ◌≤◌, Bool, true, false, if◌then◌else◌, List, [], ◌∷◌, ◌++◌, length, Some, refl, ap, subst, arith}
use Rattle.std.specs.List.{slice_get}
use Rattle.yv_expand_rounds.specs.declared.label.Label.{Label}
use Rattle.yv_expand_rounds.specs.Groups.{group_of_augment, members_of}
use Rattle.yv_expand_rounds.specs.Placements.{HaveEntered, enter, one_turn}
use Rattle.yv_expand_rounds.specs.Turns.{State, turn}
use Rattle.yv_expand_uses.specs.AugmentOrder.{augments_giving}
use Rattle.yv_expand_augments.specs.Augmentation.{copy_turn, last_of, placed_from, turns, turns_from}
use Rattle.yv_expand_uses.specs.Paths.{path_in}
use Rattle.yv_expand_uses.specs.InnerLayout.{Fits}
use Rattle.yv_expand_statements.specs.Kinds.{is_uses}
use Rattle.yv_expand_uses.specs.Spots.{Whole, copies_of}
use Rattle.yv_expand_uses.specs.declared.spot.Spot.{Spot}
use Rattle.yv_expand_augments.proofs.ItemEntry.{placed_entered}

abbrev pub KeptInTurns : (labels : List Label) (copies : ℕ) → (State → Type 0) → Type 0
KeptInTurns labels copies P =
    (first k start limit : ℕ) (names : List ℕ) (st : State) → k < copies → HaveEntered labels copies first st → P st → P (turn labels k start limit names st)

abbrev pub KeptOnEntry : (State → Type 0) → Type 0
KeptOnEntry P = (i g : ℕ) (st : State) → P st → P (enter i g st)

module _ (w : Whole) (labels : List Label) (copies : ℕ) (P : State → Type 0) (in_turns : KeptInTurns labels copies P) (on_entry : KeptOnEntry P) where
  pub turns_hold : (s : Spot) (first number : ℕ) (augments : List ℕ) (st : State) → number + length augments ≤ copies → HaveEntered labels copies first st → P st
      → P (turns_from w labels s number augments st)
  turns_hold s first number [] st le h is = is
  turns_hold s first number (a ∷ others) st le h is =
      let limit : ℕ = last_of (members_of st.groups (group_of_augment labels number)) in
      let path : List ℕ = path_in w s.module_file a in
      turns_hold s first (number + 1) others (copy_turn w labels s number a st) (omega (arith, le)) (one_turn number s.group limit path (omega (arith, le)) h)
      (in_turns first number s.group limit path st (omega (arith, le)) h is)

  pub spot_holds : (s : Spot) (first : ℕ) (st : State) → s.first + copies_of w.rows s ≤ copies → HaveEntered labels copies first st → P st → P (turns w labels s st)
  spot_holds s first st le h is = by (is_uses s.label.kind) refl
    where
      by : (b : Bool) → is_uses s.label.kind ≡ b → P (if b then turns_from w labels s s.first (augments_giving w.rows s.statement) st else st)
      by true same =
          let c : copies_of w.rows s ≡ length (augments_giving w.rows s.statement) = ap (λ (b : Bool). if b then length (augments_giving w.rows s.statement) else 0) same in
          turns_hold s first s.first (augments_giving w.rows s.statement) st (omega (arith, le, c)) h is
      by false same = is

  -- through those in front
  pub placed_holds : (i n : ℕ) (front rest : List Spot) → w.items ≡ length labels → i + length (front ++ rest) ≡ length labels
      → ((j : ℕ) (t : Spot) → slice_get (front ++ rest) j ≡ Some t → Fits w copies t) → n ≡ i + length front → P (placed_from w labels copies n rest)
      → P (placed_from w labels copies i (front ++ rest))
  placed_holds i n [] rest whole all fit is h = subst (λ (m : ℕ). P (placed_from w labels copies m rest)) (let e : n ≡ i = omega (arith, is) in e) h
  placed_holds i n (t ∷ front) rest whole all fit is h =
      let before : State = placed_from w labels copies (i + 1) (front ++ rest) in
      let f : Fits w copies t = fit 0 t refl in
      let entered : HaveEntered labels copies (i + 1) before =
      placed_entered w labels copies (i + 1) (front ++ rest) whole (omega (arith, all)) (λ j u at. fit (suc j) u at) in
      on_entry i t.group (turns w labels t before) (spot_holds t (i + 1) before f.copies entered
      (placed_holds (i + 1) n front rest whole (omega (arith, all)) (λ j u at. fit (suc j) u at) (omega (arith, is)) h))
