-- An augment is refused by number, at an item of the final tree that it gives to a node which
-- doesn't take the item, exactly where the definition on trees refuses it for its block (RFC 7950,
-- section 7.17).
use Rattle.std.specs.Prelude.{◌≡◌, ℕ, false, List, Some, slice_get}
use Rattle.std.specs.List.{Contains}
use Rattle.yv_text_statement.specs.declared.refusal.Code.TheVariants as code
use Rattle.yv_text_statement.specs.declared.refusal.Refusal.{Refusal}
use Rattle.yv_link_scopes.specs.Files.{Files}
use Rattle.yv_link_scopes.specs.RowList.{rows_of}
use Rattle.yv_link_scopes.specs.Rows.{Row}
use Rattle.yv_expand.specs.Tree.{Item}
use Rattle.yv_expand_rounds.specs.declared.row.ItemRow.{ItemRow}
use Rattle.yv_expand_augments.specs.Placement.{PutsMisplaced, augment_around}
use Rattle.yv_expand_statements.specs.Kinds.{takes}
use Rattle.yv_expand_uses.specs.Spots.{Whole, layout_of, spot_at}
use Rattle.yv_expand_uses.specs.declared.spot.Spot.{Spot}
use Rattle.yv_expand_tree.specs.Final.{final_items, spots_of, whole_of}
use Rattle.yv_expand_definition.specs.Gives.{Product}
use Rattle.yv_expand_laws.specs.AlikeRefusals.{IsRefusalAt, RefuseAlike, RefusesModuleAugment, RefusesUsesAugment, RefusesWrong}

-- an item of the final tree is in the block of an augment, and below a node that doesn't take it
pub record HasMisplaced (rows : List Row) (spots : List Spot) (tree : List ItemRow)
    (augment : ℕ) : Type 0 where
  pub place : ℕ
  pub row : ItemRow
  pub at : slice_get tree place ≡ Some row
  pub spot : Spot
  pub spot_is : slice_get spots row.number ≡ Some spot
  pub node : Spot
  pub node_is : spot_at spots row.parent ≡ Some node
  pub around : augment_around rows (slice_get rows spot.statement) ≡ Some augment
  pub untaken : takes node.label.kind spot.label.kind ≡ false

-- it is an augment of a module
abbrev pub MisplacedByModule : Whole → List Item → List ItemRow → Refusal → Type 0
MisplacedByModule w items tree f =
    (a : ℕ) × Contains w.augments a × HasMisplaced w.rows (layout_of w items).spots tree a
    × IsRefusalAt w.rows code.BadAugment a f

-- of augments of modules the same is refused
abbrev pub MisplacementsByModulesAreOne : Files → Type 0
MisplacementsByModulesAreOne files =
    RefuseAlike files (λ f. MisplacedByModule (whole_of files f) f.items (final_items f))
    (RefusesModuleAugment files code.BadAugment)

-- it isn't an augment of a module but one of a uses
abbrev pub MisplacedByUses : Whole → List Item → List ItemRow → Refusal → Type 0
MisplacedByUses w items tree f =
    (a : ℕ) × (Contains w.augments a → ⊥) × HasMisplaced w.rows (layout_of w items).spots tree a
    × IsRefusalAt w.rows code.BadAugment a f

-- of augments of `uses` the same is refused
abbrev pub MisplacementsByUsesAreOne : Files → Type 0
MisplacementsByUsesAreOne files =
    RefuseAlike files (λ f. MisplacedByUses (whole_of files f) f.items (final_items f))
    (RefusesUsesAugment files code.BadAugment)

-- what the files expand to refuses an augment for its block
abbrev pub RefusesBlock : Files → Product → Refusal → Type 0
RefusesBlock files m f =
    (a : ℕ) × RefusesWrong files (record { code = code.BadAugment; statement = a }) m f

-- of all augments the same is refused
abbrev pub MisplacementsAreOne : Files → Type 0
MisplacementsAreOne files =
    RefuseAlike files (λ f. PutsMisplaced (rows_of files) (spots_of files f) (final_items f))
    (λ marks. RefusesBlock files)
