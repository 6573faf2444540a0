-- Chains of imports (RFC 7950, section 7.1.5).
use Rattle.std.specs.Prelude.{◌≡◌, ℕ, ◌<◌, List, length, Option, Some, None, if◌then◌else◌, codes, slice_get}
use Rattle.yv_link_scopes.specs.Files.{Briefs, has_word, module_file_at, file_named}
use Rattle.yv_link_scopes.specs.Rows.{Row, name_in}
use Rattle.yv_link_modules.specs.Links.{is_module_at}

-- a file, where it is that of a module
abbrev pub module_in : Briefs → Option ℕ → Option ℕ
module_in files None = None
module_in files (Some n) = if is_module_at files n then Some n else None

-- the module that an import names
abbrev pub imported_module : Briefs → Row → Option ℕ
imported_module files r = if has_word (codes "import") r.head
    then module_in files (file_named files (name_in r)) else None

-- one of the first n statements, in the module a or a submodule of it, imports the module b
abbrev pub ImportsWithin : Briefs → List Row → ℕ → ℕ → ℕ → Type 0
ImportsWithin files rows n a b =
    (k : ℕ) × (k < n) × (r : Row) × (slice_get rows k ≡ Some r) × (module_file_at files r.file ≡ a)
    × (imported_module files r ≡ Some b)

-- a module imports another, directly or through its submodules
abbrev pub Imports : Briefs → List Row → ℕ → ℕ → Type 0
Imports files rows a b = ImportsWithin files rows (length rows) a b

-- a module leads to another by one import or more
pub data LeadsTo (files : Briefs) (rows : List Row) : ℕ → ℕ → Type 0 where
  by_import : {a b : ℕ} → Imports files rows a b → LeadsTo files rows a b
  by_way : {a b c : ℕ} → Imports files rows a b → LeadsTo files rows b c → LeadsTo files rows a c

-- an import whose module leads by imports to the importing one
abbrev pub IsImportCycle : Briefs → List Row → Row → Type 0
IsImportCycle files rows r = (b : ℕ) × (imported_module files r ≡ Some b)
    × LeadsTo files rows b (module_file_at files r.file)
