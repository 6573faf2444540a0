-- What `placed_from` does with the spots of a block is what is told of the block.
use Rattle.std.proofs.Common.{◌≡◌, ℕ, ◌+◌, Bool, if◌then◌else◌, List, [], ◌∷◌, ◌++◌, length, refl, ◌∙◌, ap, arith}
use Rattle.yv_expand_rounds.specs.declared.label.Label.{Label}
use Rattle.yv_expand_rounds.specs.Groups.{group_of_augment}
use Rattle.yv_expand_rounds.specs.Placements.{enter}
use Rattle.yv_expand_rounds.specs.Turns.{State}
use Rattle.yv_expand_laws.specs.Blocks.{Augments, Block, augment, copy_turn, item, no_augments, enter_block, run_all, take_turns, uses}
use Rattle.yv_expand_laws.specs.Blocks as block
use Rattle.yv_expand_laws.specs.Layout.{AllLie, Lie, Spot, paths_of, placed_on, turns, turns_from}

module _ (labels : List Label) where
  -- one list behind another
  pub placed_append : (i j : ℕ) (xs ys : List Spot) (st : State) → i + length xs ≡ j → placed_on labels i (xs ++ ys) st ≡ placed_on labels i xs (placed_on labels j ys st)
  placed_append i j [] ys st e = ap (λ (n : ℕ). placed_on labels n ys st) (let same : i ≡ j = omega (arith, e) in same)
  placed_append i j (x ∷ xs) ys st e =
      ap (λ s. enter i x.group (turns labels x s)) (placed_append (i + 1) j xs ys st (omega (arith, e)))

  turns_are : (s : Spot) {lo hi c e k own : ℕ} (augments : Augments lo hi c e k own) (st : State) → turns_from labels s k (paths_of augments) st ≡ take_turns labels s.group augments st
  turns_are s no_augments st = refl
  turns_are s {k = k} (augment mid d names b others) st = turns_are s others (copy_turn labels s.group k names st)

  mutual
    pub placed_is : (g : ℕ) {lo hi c e : ℕ} (b : Block lo hi c e) (spots : List Spot) (st : State) → Lie labels g b spots
        → placed_on labels lo spots st ≡ enter_block labels g b st
    placed_is g {lo = lo} block.nothing spots st is = ap (λ l. placed_on labels lo l st) is
    placed_is g {lo = lo} (item mid d below behind) spots st (s, low, rest, is, at, no_uses, L, R, mid_is) =
        ap (λ l. placed_on labels lo l st) is
        ∙ (ap (λ (b : Bool). enter lo s.group (if b then turns_from labels s s.first s.paths (placed_on labels (lo + 1) (low ++ rest) st) else placed_on labels (lo + 1) (low ++ rest) st)) no_uses
        ∙ (ap (λ (n : ℕ). enter lo n (placed_on labels (lo + 1) (low ++ rest) st)) at
        ∙ ap (enter lo g) (placed_append (lo + 1) mid low rest st mid_is
        ∙ (placed_is (lo + 1) below low (placed_on labels mid rest st) L ∙ ap (enter_block labels (lo + 1) below) (placed_is g behind rest st R)))))
    placed_is g {lo = lo} {c = c} (uses mid end own d e copies augments behind) spots st (s, low, more, rest, is, at, is_uses, first, paths, L, A, R, mid_is, end_is) =
        ap (λ l. placed_on labels lo l st) is
        ∙ (ap (λ (b : Bool). enter lo s.group (if b then turns_from labels s s.first s.paths inner else inner)) is_uses
        ∙ (ap (λ (n : ℕ). enter lo s.group (turns_from labels s n s.paths inner)) first
        ∙ (ap (λ ps. enter lo s.group (turns_from labels s c ps inner)) paths
        ∙ (ap (enter lo s.group) (turns_are s augments inner)
        ∙ (ap (λ (n : ℕ). enter lo n (take_turns labels n augments inner)) at
        ∙ ap (λ z. enter lo g (take_turns labels g augments z))
        (placed_append (lo + 1) mid low (more ++ rest) st mid_is
        ∙ (ap (placed_on labels (lo + 1) low) (placed_append mid end more rest st end_is)
        ∙ (placed_is g copies low (placed_on labels mid more (placed_on labels end rest st)) L
        ∙ ap (enter_block labels g copies) (all_placed augments more (placed_on labels end rest st) A ∙ ap (run_all labels augments) (placed_is g behind rest st R))))))))))
      where
        inner : State
        inner = placed_on labels (lo + 1) (low ++ (more ++ rest)) st

    pub all_placed : {lo hi c e k own : ℕ} (augments : Augments lo hi c e k own) (spots : List Spot) (st : State) → AllLie labels augments spots
        → placed_on labels lo spots st ≡ run_all labels augments st
    all_placed {lo = lo} no_augments spots st is = ap (λ l. placed_on labels lo l st) is
    all_placed {lo = lo} {k = k} (augment mid d names b others) spots st (low, rest, is, L, A, mid_is) =
        ap (λ l. placed_on labels lo l st) is
        ∙ (placed_append lo mid low rest st mid_is
        ∙ (placed_is (group_of_augment labels k) b low (placed_on labels mid rest st) L ∙ ap (enter_block labels (group_of_augment labels k) b) (all_placed others rest st A)))
