-- What is known of types that were read.
use Rattle.std.specs.Prelude.{map}
use Rattle.yv_text_statement.specs.Order.{IsLeast}
use Rattle.yv_link_scopes.specs.Files.{Files, brief_of}
use Rattle.yv_link_scopes.specs.RowList.{rows_of}
use Rattle.yv_type_chains.specs.Types.{IsOrderOfTypes}
use Rattle.yv_type_chains.specs.Refusals.{BadKinds}
use Rattle.yv_type_chains.specs.InnerTables.{AreBased, AreFollowed}
use Rattle.yv_type_chains.specs.declared.bases.Bases.{Bases}

-- these are the bases of the types of these files; how, only the readers ask
pub record AreBases (files : Files) (bases : Bases) : Type 0 where
  pub based : AreBased (map brief_of files) (rows_of files) bases.bases.items
  pub followed : AreFollowed (map brief_of files) (rows_of files) bases.follows.items
  pub order : IsOrderOfTypes (map brief_of files) (rows_of files) bases.order.items
  pub least : IsLeast (BadKinds files) bases.fault
