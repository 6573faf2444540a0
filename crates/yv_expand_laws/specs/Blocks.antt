-- How the items of a block enter and augments of its uses have their turns, without files and
-- spots: what `placed_from` does of it.
use Rattle.std.specs.Prelude.{ℕ, ◌+◌, List}
use Rattle.yv_expand_rounds.specs.declared.label.Label.{Label}
use Rattle.yv_expand_rounds.specs.Groups.{group_of_augment, members_of}
use Rattle.yv_expand_rounds.specs.Placements.{enter}
use Rattle.yv_expand_rounds.specs.Turns.{State, turn}
use Rattle.yv_expand_augments.specs.Augmentation.{last_of}

mutual
  -- Items that have the numbers from `lo` to before `hi`, with copies of augments from `c` to
  -- before `e`. The first is a node above others; or a uses, above the copies of what its grouping
  -- has and then what its augments give. The copies of its own augments come first.
  pub data Block : (lo hi c e : ℕ) → Type 0 where
    nothing : {lo c : ℕ} → Block lo lo c c
    item : {lo hi c e : ℕ} (mid d : ℕ) → (below : Block (lo + 1) mid c d)
        → (behind : Block mid hi d e) → Block lo hi c e
    uses : {lo hi c f : ℕ} (mid end own d e : ℕ) → (copies : Block (lo + 1) mid own d)
        → (augments : Augments mid end d e c own)
        → (behind : Block end hi e f) → Block lo hi c f

  -- what the augments of a uses give, of which the copies have the numbers from `k` to before
  -- `own`, each with its path
  pub data Augments : (lo hi c e k own : ℕ) → Type 0 where
    no_augments : {lo c k : ℕ} → Augments lo lo c c k k
    augment : {lo hi c e k own : ℕ} (mid d : ℕ) → (names : List ℕ) → (block : Block lo mid c d)
        → (others : Augments mid hi d e (k + 1) own)
        → Augments lo hi c e k own

-- the turn of an augment within what the copy of its `uses` gives
abbrev pub copy_turn : List Label → (g k : ℕ) → List ℕ → State → State
copy_turn labels g k names st =
    turn labels k g (last_of (members_of st.groups (group_of_augment labels k))) names st

-- the turns of the augments of a uses that is in a group, in order
abbrev pub take_turns : List Label → (g : ℕ) → {lo hi c e k own : ℕ} → Augments lo hi c e k own
    → State → State
take_turns labels g no_augments st = st
take_turns labels g {k = k} (augment mid d names block others) st =
    take_turns labels g others (copy_turn labels g k names st)

abbrev mutual
  -- the items of a block have entered a group, from the last to the first
  pub enter_block : List Label → (g : ℕ) → {lo hi c e : ℕ} → Block lo hi c e → State → State
  enter_block labels g nothing st = st
  enter_block labels g {lo = lo} (item mid d below behind) st =
      enter lo g (enter_block labels (lo + 1) below (enter_block labels g behind st))
  enter_block labels g {lo = lo} (uses mid end own d e copies augments behind) st =
      enter lo g (take_turns labels g augments
      (enter_block labels g copies (run_all labels augments (enter_block labels g behind st))))

  -- those of the blocks of augments have, each its own group
  pub run_all : List Label → {lo hi c e k own : ℕ} → Augments lo hi c e k own → State → State
  run_all labels no_augments st = st
  run_all labels {k = k} (augment mid d names block others) st =
      enter_block labels (group_of_augment labels k) block (run_all labels others st)
