-- The smallest case with the difficulty: item 0 is a uses of a grouping with one node (1), which
-- its augment gives a node (2); a sibling (3) stands behind. What the block does is computed, and
-- it is what the block gives.
use Rattle.std.proofs.Common.{◌≡◌, false, List, [], ◌∷◌, refl, Some}
use Rattle.yv_expand_rounds.specs.declared.end.End.TheVariants as end
use Rattle.yv_expand_rounds.specs.declared.label.Label.{Label}
use Rattle.yv_expand_statements.specs.declared.statement_kind.StatementKind.TheVariants as kind
use Rattle.yv_expand_rounds.specs.Placements.{nothing}
use Rattle.yv_expand_rounds.specs.Turns.{State}
use Rattle.yv_expand_laws.specs.Blocks.{Augments, Block, augment, item, no_augments, enter_block, uses}
use Rattle.yv_expand_laws.specs.Blocks as block

labels : List Label
labels = record { kind = kind.Uses; name = 0; given = false } ∷ record { kind = kind.Container; name = 1; given = false } ∷ record { kind = kind.Leaf; name = 2; given = false } ∷ record { kind = kind.Leaf; name = 3; given = false } ∷ []

copies : Block 1 2 1 1
copies = item 2 1 block.nothing block.nothing

added : Block 2 3 1 1
added = item 3 1 block.nothing block.nothing

behind : Block 3 4 1 1
behind = item 4 1 block.nothing block.nothing

whole : Block 0 4 0 1
whole = uses 2 3 1 1 1 copies (augment 3 1 (1 ∷ []) added no_augments) behind

abbrev after : State
after = record { groups = (3 ∷ 1 ∷ 0 ∷ []) ∷ [] ∷ (2 ∷ []) ∷ [] ∷ [] ∷ [] ∷ []; ends = Some (end.Node 1) ∷ [] }

stands : enter_block labels 0 whole (nothing 4 1) ≡ after
unfolding labels copies added behind whole
stands = refl
