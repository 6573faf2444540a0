-- An augment of a module whose target doesn't take its block is refused so in what the files expand
-- to exactly where, by number, it adds to an item that doesn't take it (RFC 7950, section 7.17).
use Rattle.std.specs.Prelude.{◌≡◌, ℕ, false, List, length, Some, slice_get}
use Rattle.yv_text_statement.specs.Order.{Among}
use Rattle.yv_text_statement.specs.declared.refusal.Code.TheVariants as code
use Rattle.yv_text_statement.specs.declared.refusal.Refusal.{Refusal}
use Rattle.yv_link_scopes.specs.Files.{Files}
use Rattle.yv_expand.specs.Tree.{Item}
use Rattle.yv_expand_rounds.specs.Turns.{State, target_of}
use Rattle.yv_expand_uses.specs.Spots.{Whole, labels_of, layout_of}
use Rattle.yv_expand_uses.specs.declared.spot.Spot.{Spot}
use Rattle.yv_expand_tree.specs.Final.{whole_of}
use Rattle.yv_expand_definition.specs.Gives.{takes_block}
use Rattle.yv_expand_laws.specs.AlikeRefusals.{IsRefusalAt, RefuseAlike, RefusesModuleAugment}

-- the augment of a module at a place adds to an item that doesn't take its block
pub record IsUntaken (w : Whole) (items : List Item) (st : State) (place augment : ℕ) : Type 0 where
  pub target : ℕ
  pub adds : target_of (labels_of (layout_of w items).spots) st.ends place ≡ Some target
  pub node : Spot
  pub target_at : slice_get (layout_of w items).spots target ≡ Some node
  pub untaken : takes_block w.rows augment node.label.kind ≡ false

-- one of them does
abbrev pub ModuleUntaken : Whole → List Item → State → Refusal → Type 0
ModuleUntaken w items st f =
    Among w.augments (λ place a r. IsUntaken w items st place a
    × IsRefusalAt w.rows code.BadAugment a r) (length w.augments) f

-- the same augments of modules are refused for what they add
abbrev pub ModuleBlocksAreOne : Files → Type 0
ModuleBlocksAreOne files =
    RefuseAlike files (λ f. ModuleUntaken (whole_of files f) f.items f.state)
    (RefusesModuleAugment files code.BadAugment)
