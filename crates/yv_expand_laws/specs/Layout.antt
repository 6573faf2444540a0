-- How the spots of items lie in a block: what `laid` makes of what `Expands` gives. Of a spot only
-- this is asked here: its group, whether it is a uses, the number of the copy of its first augment,
-- and the paths of its augments.
use Rattle.std.specs.Prelude.{◌≡◌, ℕ, ◌+◌, Bool, true, false, List, [], ◌∷◌, ◌++◌, length, if◌then◌else◌}
use Rattle.yv_expand_rounds.specs.declared.label.Label.{Label}
use Rattle.yv_expand_rounds.specs.Groups.{group_of_augment}
use Rattle.yv_expand_rounds.specs.Placements.{enter}
use Rattle.yv_expand_rounds.specs.Turns.{State}
use Rattle.yv_expand_laws.specs.Blocks.{Augments, Block, augment, copy_turn, item, no_augments, uses}
use Rattle.yv_expand_laws.specs.Blocks as block

-- where an item enters: its group, and of a `uses` its first augment with the paths of all
pub record Spot : Type 0 where
  pub group : ℕ
  pub is_uses : Bool
  pub first : ℕ
  pub paths : List (List ℕ)

-- the turns of augments with these paths, one after the other
abbrev pub turns_from : List Label → Spot → (number : ℕ) → List (List ℕ) → State → State
turns_from labels s number [] st = st
turns_from labels s number (names ∷ others) st =
    turns_from labels s (number + 1) others (copy_turn labels s.group number names st)

-- the turns of the augments of an item, if it is a `uses`
abbrev pub turns : List Label → Spot → State → State
turns labels s st = if s.is_uses then turns_from labels s s.first s.paths st else st

-- yv_expand_augments::Grafted::placed_from, on top of any state
abbrev pub placed_on : List Label → (first : ℕ) → List Spot → State → State
placed_on labels i [] st = st
placed_on labels i (s ∷ others) st =
    enter i s.group (turns labels s (placed_on labels (i + 1) others st))

-- the paths of augments, in order
abbrev pub paths_of : {lo hi c e k own : ℕ} → Augments lo hi c e k own → List (List ℕ)
paths_of no_augments = []
paths_of (augment mid d names b others) = names ∷ paths_of others

abbrev mutual
  pub Lie : List Label → (g : ℕ) → {lo hi c e : ℕ} → Block lo hi c e → List Spot → Type 0
  Lie labels g block.nothing spots = spots ≡ []
  Lie labels g {lo = lo} (item mid d below behind) spots =
      (s : Spot) × (low : List Spot) × (rest : List Spot) × (spots ≡ s ∷ (low ++ rest))
      × (s.group ≡ g) × (s.is_uses ≡ false)
      × Lie labels (lo + 1) below low × Lie labels g behind rest × (lo + 1 + length low ≡ mid)
  Lie labels g {lo = lo} {c = c} (uses mid end own d e copies augments behind) spots =
      (s : Spot) × (low : List Spot) × (given : List Spot) × (rest : List Spot)
      × (spots ≡ s ∷ (low ++ (given ++ rest))) × (s.group ≡ g)
      × (s.is_uses ≡ true) × (s.first ≡ c) × (s.paths ≡ paths_of augments) × Lie labels g copies low
      × AllLie labels augments given
      × Lie labels g behind rest × (lo + 1 + length low ≡ mid) × (mid + length given ≡ end)

  pub AllLie : List Label → {lo hi c e k own : ℕ} → Augments lo hi c e k own → List Spot → Type 0
  AllLie labels no_augments spots = spots ≡ []
  AllLie labels {lo = lo} {k = k} (augment mid d names b others) spots =
      (low : List Spot) × (rest : List Spot) × (spots ≡ low ++ rest)
      × Lie labels (group_of_augment labels k) b low × AllLie labels others rest
      × (lo + length low ≡ mid)
