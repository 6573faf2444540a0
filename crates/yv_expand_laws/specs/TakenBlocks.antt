-- What a target doesn't take of the block of an augment (RFC 7950, section 7.17).
use Rattle.std.specs.Prelude.{◌≡◌, ◌↔◌, ℕ, true, false, List, Some, slice_get}
use Rattle.yv_link_scopes.specs.Rows.{Row}
use Rattle.yv_expand_statements.specs.StatementBlocks.{is_augment, is_node_or_uses}
use Rattle.yv_expand_statements.specs.declared.statement_kind.StatementKind.{StatementKind}
use Rattle.yv_expand_uses.specs.Kinds.{kind_at}
use Rattle.yv_expand_augments.specs.Placement.{augment_around}
use Rattle.yv_expand_statements.specs.Kinds.{takes}
use Rattle.yv_expand_definition.specs.Gives.{takes_block}

-- a statement that gives an item is in the block of an augment, and a node of this kind doesn't
-- take the item
pub record IsNotTaken (rows : List Row) (augment : ℕ) (node : StatementKind) : Type 0 where
  pub statement : ℕ
  pub row : Row
  pub at : slice_get rows statement ≡ Some row
  pub item : is_node_or_uses row ≡ true
  pub around : augment_around rows (Some row) ≡ Some augment
  pub taken : takes node (kind_at (Some row)) ≡ false

-- a target doesn't take the block where there is one
abbrev pub TargetsTake : List Row → Type 0
TargetsTake rows =
    (a : ℕ) (q : Row) (node : StatementKind) → slice_get rows a ≡ Some q → is_augment q ≡ true
    → takes_block rows a node ≡ false ↔ IsNotTaken rows a node
