-- The values of an identityref type (RFC 7950, section 9.10).
use Rattle.std.specs.Prelude.{◌≡◌, ℕ, Bool, true, false, List, map, Some, slice_get}
use Rattle.std.specs.Option.{option_map, unwrap_or}
use Rattle.yv_text_statement.specs.Selection.{ModuleChoice}
use Rattle.yv_link_scopes.specs.Files.{Files, Briefs, brief_of}
use Rattle.yv_link_scopes.specs.RowList.{rows_of}
use Rattle.yv_link_scopes.specs.Rows.{Row, name_in}
use Rattle.yv_link_features.specs.On.{AllHoldBy, module_name_in}
use Rattle.yv_link_identities.specs.Names.{is_identity}
use Rattle.yv_link_identities.specs.References.{ref_of}
use Rattle.yv_link.specs.Modules.{named_module}
use Rattle.yv_link.specs.declared.modules.ModuleRef.{ModuleRef}
use Rattle.yv_values.specs.Identities.{Id}
use Rattle.yv_type_identities.specs.Bases.{IsBelowAll}

-- whether the expression of an `if-feature` holds in a file
abbrev pub Truth : Type 0
Truth = ℕ → List ℕ → Bool

-- each condition in the block of a numbered statement holds (section 7.20.2)
abbrev pub IsOn : Truth → List Row → ℕ → Type 0
IsOn truth = AllHoldBy (λ file text. truth file text ≡ true)

-- the module of a name is there, and it is implemented (section 5.6.5)
abbrev pub names_implemented : ModuleChoice → Briefs → List ℕ → Bool
names_implemented choice files name =
    unwrap_or (option_map (λ (m : ModuleRef). m.implemented) (named_module choice files name)) false

-- an identity by its name and that of the module to which its file belongs (section 5.1)
abbrev pub id_at : Briefs → Row → Id
id_at files r = record { module_name = module_name_in (slice_get files r.file); name = name_in r }

-- the numbered statement r is an identity that is derived from every base of the type, of an
-- implemented module, and none of its conditions is false (section 9.10.2)
pub record IsValue (truth : Truth) (choice : ModuleChoice) (files : Files) (kind number : ℕ)
    (r : Row) : Type 0 where
  pub identity : is_identity r ≡ true
  pub derived : IsBelowAll (map brief_of files) (rows_of files) kind (ref_of r)
  pub implemented : names_implemented choice (map brief_of files)
      (id_at (map brief_of files) r).module_name ≡ true
  pub on : IsOn truth (rows_of files) number

-- this module has an identity of this name that is a value
abbrev pub HasValue : Truth → ModuleChoice → Files → ℕ → List ℕ → List ℕ → Type 0
HasValue truth choice files kind module_name called =
    (number : ℕ) × (r : Row) × (slice_get (rows_of files) number ≡ Some r)
    × IsValue truth choice files kind number r
    × (id_at (map brief_of files) r ≡ record { module_name = module_name; name = called })
