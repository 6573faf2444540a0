-- An augment of a uses whose target doesn't take its block is refused so in what the files expand
-- to exactly where, by number, it adds in its turn to an item that doesn't take it (RFC 7950,
-- sections 7.13 and 7.17).
use Rattle.std.specs.Prelude.{◌≡◌, ℕ, ◌+◌, true, false, List, length, drop, Some, slice_get}
use Rattle.yv_text_statement.specs.Order.{Among}
use Rattle.yv_text_statement.specs.declared.refusal.Code.TheVariants as code
use Rattle.yv_text_statement.specs.declared.refusal.Refusal.{Refusal}
use Rattle.yv_link_scopes.specs.Files.{Files}
use Rattle.yv_expand.specs.Tree.{Item}
use Rattle.yv_expand_rounds.specs.declared.row.ItemRow.{ItemRow}
use Rattle.yv_expand_uses.specs.Ends.{end_at}
use Rattle.yv_expand_augments.specs.Augmentation.{placed_from}
use Rattle.yv_expand_statements.specs.Kinds.{is_uses}
use Rattle.yv_expand_uses.specs.Spots.{Whole, labels_of, layout_of}
use Rattle.yv_expand_augments.specs.MissingTargets.{after_turns, next_number, node_reached}
use Rattle.yv_expand_uses.specs.AugmentOrder.{augments_in}
use Rattle.yv_expand_uses.specs.declared.spot.Spot.{Spot}
use Rattle.yv_expand_tree.specs.Final.{final_items, whole_of}
use Rattle.yv_expand_definition.specs.Gives.{takes_block}
use Rattle.yv_expand_laws.specs.AlikeRefusals.{IsRefusalAt, RefuseAlike, RefusesUsesAugment}

-- the numbered item is a uses, and one of its augments adds in its turn to an item that doesn't
-- take its block
pub record HasUntaken (w : Whole) (items : List Item) (number augment : ℕ) : Type 0 where
  pub spot : Spot
  pub at : slice_get (layout_of w items).spots number ≡ Some spot
  pub of_uses : is_uses spot.label.kind ≡ true
  pub place : ℕ
  pub there : slice_get (augments_in w.rows spot.statement) place ≡ Some augment
  pub target : ℕ
  pub reaches : node_reached w (labels_of (layout_of w items).spots) spot (end_at items number)
      (next_number w.rows spot place) augment
      (after_turns w (labels_of (layout_of w items).spots) spot place
      (placed_from w (labels_of (layout_of w items).spots) (layout_of w items).copies (number + 1)
      (drop (number + 1) (layout_of w items).spots))) ≡ Some target
  pub node : Spot
  pub target_at : slice_get (layout_of w items).spots target ≡ Some node
  pub untaken : takes_block w.rows augment node.label.kind ≡ false

-- an augment of a uses of the final tree is so
abbrev pub Untaken : Whole → List Item → List ItemRow → Refusal → Type 0
Untaken w items tree f =
    Among tree (λ place x r. (a : ℕ) × HasUntaken w items x.number a
    × IsRefusalAt w.rows code.BadAugment a r) (length tree) f

-- the same augments of `uses` are refused for what they add
abbrev pub UsesBlocksAreOne : Files → Type 0
UsesBlocksAreOne files =
    RefuseAlike files (λ f. Untaken (whole_of files f) f.items (final_items f))
    (RefusesUsesAugment files code.BadAugment)
