-- Which module a name or a prefix means (RFC 7950, sections 5.1, 5.6.5 and 6.2.1).
use Rattle.std.specs.Prelude.{◌≡◌, ◌<◌, ℕ, List, length, Option, Some, None, if◌then◌else◌, slice_get}
use Rattle.std.specs.Option.{option_and_then}
use Rattle.yv_text_statement.specs.Selection.{ModuleChoice, is_implemented}
use Rattle.yv_link_scopes.specs.Files.{Brief, Briefs, file_named}
use Rattle.yv_link_scopes.specs.Rows.{Row}
use Rattle.yv_link_scopes.specs.Scopes.{module_of}
use Rattle.yv_link.specs.declared.modules.ModuleRef.{ModuleRef}

-- the module whose file is that of number n, if it is one
abbrev pub ref_of : ModuleChoice → ℕ → Brief → Option ModuleRef
ref_of choice n f = if f.is_module
    then Some (record { file = n; implemented = is_implemented choice f.name }) else None

-- what is known of the module in a numbered file
abbrev pub ref_at : ModuleChoice → Briefs → ℕ → Option ModuleRef
ref_at choice files n = option_and_then (ref_of choice n) (slice_get files n)

-- the module of a name: the first file that has the name, if it is a module
abbrev pub named_module : ModuleChoice → Briefs → List ℕ → Option ModuleRef
named_module choice files name = option_and_then (ref_at choice files) (file_named files name)

-- the module that a prefix refers to in a file
abbrev pub prefixed_module : ModuleChoice → Briefs → List Row → ℕ → List ℕ → Option ModuleRef
prefixed_module choice files rows file prefix =
    option_and_then (ref_at choice files) (module_of files rows file prefix)

-- for each file the module, where it is one
pub record AreModules (choice : ModuleChoice) (files : Briefs)
    (modules : List (Option ModuleRef)) : Type 0 where
  pub each : length modules ≡ length files
  pub are : (n : ℕ) → n < length files → slice_get modules n ≡ Some (ref_at choice files n)
