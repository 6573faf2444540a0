-- What is wrong with refines (RFC 7950, section 7.13.2).
use Rattle.std.specs.Prelude.{◌≡◌, ℕ, ◌⊎◌, false, List, length, Some, None, slice_get}
use Rattle.yv_text_statement.specs.Order.{Among}
use Rattle.yv_text_statement.specs.declared.refusal.Code.TheVariants as code
use Rattle.yv_text_statement.specs.declared.refusal.Refusal.{Refusal}
use Rattle.yv_link_scopes.specs.Files.{Files}
use Rattle.yv_link_scopes.specs.RowList.{rows_of}
use Rattle.yv_expand_rounds.specs.declared.row.ItemRow.{ItemRow}
use Rattle.yv_expand_augments.specs.Refusals.{RefusesIf}
use Rattle.yv_expand_refines.specs.Targets.{RefineMeaning}
use Rattle.yv_expand_uses.specs.declared.spot.Spot.{Spot}
use Rattle.yv_expand_changes.specs.Changes.{is_fit_at_item}

-- the numbered item is one of these of the final tree
pub record IsThere (tree : List ItemRow) (item : ℕ) : Type 0 where
  pub place : ℕ
  pub row : ItemRow
  pub at : slice_get tree place ≡ Some row
  pub is : row.number ≡ item

-- a refine means an item for which it is not fit
pub record IsUnfit (files : Files) (spots : List Spot) (x : RefineMeaning) : Type 0 where
  pub item : ℕ
  pub target : x.target ≡ Some item
  pub unfit : is_fit_at_item files spots x.refine item ≡ false

-- a refine of a uses that is there is refused: it means no node, or isn't fit for the one that it
-- means
abbrev pub IsWrong : Files → List Spot → (tree : List ItemRow) → RefineMeaning → Refusal → Type 0
IsWrong files spots tree x f =
    IsThere tree x.item
    × (RefusesIf (rows_of files) code.RefineTarget (x.target ≡ None) x.refine f
    ⊎ RefusesIf (rows_of files) code.BadRefine (IsUnfit files spots x) x.refine f)

-- what is wrong with these refines, where the items of the final tree are these
abbrev pub BadRefines : Files → List Spot → List RefineMeaning → (tree : List ItemRow) → Refusal
    → Type 0
BadRefines files spots refined tree f =
    Among refined (λ place x. IsWrong files spots tree x) (length refined) f
