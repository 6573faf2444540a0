-- What is known of types that were read.
use Rattle.std.specs.Prelude.{◌≡◌, ℕ, List, Option, Some, None, codes}
use Rattle.std.specs.Option.{option_and_then, option_map}
use Rattle.yv_text_statement.specs.Selection.{ModuleChoice}
use Rattle.yv_link_scopes.specs.Files.{Files}
use Rattle.yv_link_scopes.specs.RowList.{rows_of}
use Rattle.yv_link_definitions.specs.References.{number_at}
use Rattle.yv_type_chains.specs.Bases.{AreBases}
use Rattle.yv_type_restrictions.specs.PlainTypes.{AreFaceted}
use Rattle.yv_type_enums.specs.Types.{Truth}
use Rattle.yv_type_enums.specs.Lists.{AreLists}
use Rattle.yv_text_statement.specs.TextInFile.{TextInFile}
use Rattle.yv_types.specs.TypeDefaults.{AreDefaults, found_in, typedef_in}
use Rattle.yv_types.specs.LeafrefTypes.{AreLeafrefTypes}
use Rattle.yv_types.specs.LeafrefTypes.{found_in as leafref_in}
use Rattle.yv_types.specs.declared.leafref_path.TypeLeafref.{TypeLeafref}
use Rattle.yv_link_definitions.specs.Places.{placed_in}
use Rattle.yv_values.specs.Types.{Plain}
use Rattle.yv_types.specs.InnerTables.{AreSpaces, entry_at, plains_at}
use Rattle.yv_types.specs.Spaces.{Space}
use Rattle.yv_types.specs.declared.layers.Layers.{Layers}
use Rattle.yv_types.specs.declared.type_table.Types.{Types}

-- these are the bases of the types of these files, the plain types of those with facets, and the
-- names of the others
pub record AreLayers (files : Files) (truth : Truth) (layers : Layers) : Type 0 where
  pub based : AreBases files layers.bases
  pub faceted : AreFaceted files layers.faceted
  pub listed : AreLists files truth layers.lists

-- these are the plain types and the defaults of the types of these files, what these say as
-- leafrefs, and their places; how, only the readers ask
pub record AreTypes (files : Files) (choice : ModuleChoice) (truth : Truth)
    (types : Types) : Type 0 where
  pub spaces : AreSpaces files truth choice types.spaces
  pub defaults : AreDefaults files types.defaults
  pub leafrefs : AreLeafrefTypes files types.leafrefs
  pub places : (file offset : ℕ)
      → placed_in types.places file offset ≡ number_at (rows_of files) (codes "type") file offset

-- the plain types that are known of the type statement at an offset of a file
abbrev pub space_at : Types → ℕ → ℕ → Option (List Plain)
space_at types file offset =
    option_and_then (plains_at types.spaces) (placed_in types.places file offset)

-- what is known of the plain types of the statement of this number, where there is one, is so
abbrev pub IsTold : Files → ModuleChoice → Truth → Option ℕ → Option (List Plain) → Type 0
IsTold files choice truth None None = Unit {0}
IsTold files choice truth None (Some ps) = ⊥
IsTold files choice truth (Some k) None = (ps : List Plain) → Space files truth choice k ps → ⊥
IsTold files choice truth (Some k) (Some ps) = Space files truth choice k ps

-- the default that is known of the type statement at an offset of a file
abbrev pub default_at : Types → ℕ → ℕ → Option TextInFile
default_at types file offset =
    option_and_then (found_in types.defaults) (placed_in types.places file offset)

-- the number of the list of plain types of the numbered type, and that of the typedef that says its
-- default
abbrev pub sharing_of : Types → ℕ → Option (ℕ × ℕ)
sharing_of types k =
    option_and_then (λ (e : ℕ × List Plain). option_map (λ typedef. (e.0, typedef))
    (typedef_in types.defaults k)) (entry_at types.spaces k)

-- those of the type statement at an offset of a file
abbrev pub sharing_at : Types → ℕ → ℕ → Option (ℕ × ℕ)
sharing_at types file offset =
    option_and_then (sharing_of types) (placed_in types.places file offset)

-- what is known of the type statement at an offset of a file as a leafref
abbrev pub referring_at : Types → ℕ → ℕ → Option TypeLeafref
referring_at types file offset =
    option_and_then (leafref_in types.leafrefs) (placed_in types.places file offset)
