-- Only private clauses cite this: types that name built-in types.
use Rattle.std.specs.Prelude.{◌≡◌, ℕ, true, List, Some, slice_get}
use Rattle.yv_link_scopes.specs.Rows.{Row, name_in}
use Rattle.yv_link_definitions.specs.BuiltIn.{is_built_in}
use Rattle.yv_link_definitions.specs.Refers.{is_type}

-- the numbered statement is a type that names a built-in type
pub record NamesBuiltIn (rows : List Row) (k : ℕ) : Type 0 where
  pub statement : Row
  pub at : slice_get rows k ≡ Some statement
  pub is : is_type statement ≡ true
  pub named : is_built_in (name_in statement) ≡ true
