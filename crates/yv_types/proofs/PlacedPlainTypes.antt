-- What is told of the type statements at places.
use Rattle.std.proofs.Common.{◌≡◌, ℕ, List, Option, Some, None, refl, sym, ◌∙◌, subst, codes}
use Rattle.std.specs.Option.{option_and_then}
use Rattle.yv_base_tables.specs.declared.table.Table.{Table}
use Rattle.yv_text_statement.specs.Selection.{ModuleChoice}
use Rattle.yv_link_scopes.specs.Files.{Files}
use Rattle.yv_link_scopes.specs.RowList.{rows_of}
use Rattle.yv_link_definitions.specs.References.{number_at}
use Rattle.yv_type_chains.specs.Types.{IsTypeAt}
use Rattle.yv_type_enums.specs.Types.{Truth}
use Rattle.yv_values.specs.Types.{Plain}
use Rattle.yv_link_definitions.specs.Places.{placed_in}
use Rattle.yv_types.specs.InnerTables.{AreSpaces, plains_at}
use Rattle.yv_types.specs.Types.{AreTypes, IsTold, space_at}
use Rattle.yv_types.specs.declared.type_table.Types.{Types}
use Rattle.yv_types.specs.declared.table.SharedTypes.{SharedTypes}
use Rattle.yv_types.proofs.TypeStatementPlace.{type_there}

module _ (files : Files) (choice : ModuleChoice) (truth : Truth) where
  told_of : (spaces : Table SharedTypes) (number : Option ℕ) → AreSpaces files truth choice spaces → ((k : ℕ) → number ≡ Some k → IsTypeAt (rows_of files) k)
      → IsTold files choice truth number (option_and_then (plains_at spaces) number)
  told_of spaces None are types = tt
  told_of spaces (Some k) are types = by (plains_at spaces k) refl
    where
      by : (told : Option (List Plain)) → plains_at spaces k ≡ told → IsTold files choice truth (Some k) told
      by None e = are.full k (types k refl) e
      by (Some ps) e = are.sound k ps e

  pub all_told : (types : Types) → AreTypes files choice truth types → (file offset : ℕ)
      → IsTold files choice truth (number_at (rows_of files) (codes "type") file offset) (space_at types file offset)
  all_told types are file offset =
      let placed : placed_in types.places file offset ≡ number_at (rows_of files) (codes "type") file offset = are.places file offset in
      subst (λ (number : Option ℕ). IsTold files choice truth number (space_at types file offset)) placed
      (told_of types.spaces (placed_in types.places file offset) are.spaces (λ k e. type_there (rows_of files) file offset k (sym placed ∙ e)))
