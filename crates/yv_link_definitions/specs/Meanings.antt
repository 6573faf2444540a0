-- What is known of names that were read.
use Rattle.std.specs.Prelude.{◌≡◌, ◌↔◌, ℕ, map, true, Option, Some, codes, slice_get}
use Rattle.std.specs.Option.{option_and_then}
use Rattle.yv_link_scopes.specs.Files.{Files, brief_of}
use Rattle.yv_link_scopes.specs.Rows.{Row}
use Rattle.yv_link_scopes.specs.RowList.{rows_of}
use Rattle.yv_link_definitions.specs.Refers.{RefersTo}
use Rattle.yv_link_definitions.specs.Leads.{IsOrderOf}
use Rattle.yv_link_definitions.specs.References.{ref_of, number_at}
use Rattle.yv_link_definitions.specs.Places.{placed_in}
use Rattle.yv_link_definitions.specs.InnerPlaces.{is_definition, ref_in}
use Rattle.yv_link_definitions.specs.declared.references.DefRef.{DefRef}
use Rattle.yv_link_definitions.specs.declared.meaning_table.Names.{Names}

-- the number of the definition that a numbered statement means
abbrev pub meant_in : Names → ℕ → Option ℕ
meant_in names k = option_and_then (λ meant. meant) (slice_get names.meanings.items k)

-- that definition
abbrev pub definition_in : Names → ℕ → Option DefRef
definition_in names k =
    option_and_then (λ meant. ref_in names.definitions meant) (meant_in names k)

-- these are the names of these files; how, only the readers ask
pub record AreNames (files : Files) (names : Names) : Type 0 where
  pub meant : (k d : ℕ) → (meant_in names k ≡ Some d)
      ↔ RefersTo (map brief_of files) (rows_of files) k d
  pub refs : (d : ℕ) (r : Row) → slice_get (rows_of files) d ≡ Some r → is_definition r ≡ true
      → ref_in names.definitions d ≡ Some (ref_of r)
  pub types : (file offset : ℕ) → placed_in names.types file offset
      ≡ number_at (rows_of files) (codes "type") file offset
  pub uses : (file offset : ℕ) → placed_in names.uses file offset
      ≡ number_at (rows_of files) (codes "uses") file offset
  pub order : IsOrderOf (map brief_of files) (rows_of files) names.order.items
