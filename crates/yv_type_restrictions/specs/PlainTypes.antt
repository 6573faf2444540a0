-- What is known of types that were read.
use Rattle.std.specs.Prelude.{◌≡◌, ◌↔◌, ℕ, Some}
use Rattle.yv_text_statement.specs.Order.{IsLeast}
use Rattle.yv_link_scopes.specs.Files.{Files}
use Rattle.yv_values.specs.Types.{Plain}
use Rattle.yv_type_restrictions.specs.Types.{HasPlainType}
use Rattle.yv_type_restrictions.specs.Refusals.{BadFaceted}
use Rattle.yv_type_restrictions.specs.InnerTables.{plain_at}
use Rattle.yv_type_restrictions.specs.declared.plain_types.PlainTypes.{PlainTypes}

-- these are the plain types of the types of these files; how, only the readers ask
pub record AreFaceted (files : Files) (faceted : PlainTypes) : Type 0 where
  pub types : (k : ℕ) (p : Plain) → (plain_at faceted.types k ≡ Some p) ↔ HasPlainType files k p
  pub least : IsLeast (BadFaceted files) faceted.fault
