-- What is wrong with modules, imports and prefixes.
use Rattle.std.specs.Prelude.{◌≡◌, ℕ, ◌⊎◌, ◌||◌, not, true, List, length}
use Rattle.yv_text_statement.specs.Order.{Stands, Among, refusal_at}
use Rattle.yv_text_statement.specs.declared.refusal.Refusal.{Refusal}
use Rattle.yv_text_statement.specs.declared.refusal.Code.TheVariants as code
use Rattle.yv_link_scopes.specs.Files.{Brief, Briefs, file_named}
use Rattle.yv_link_scopes.specs.Rows.{Row}
use Rattle.yv_link_scopes.specs.Tables.{first_of}
use Rattle.yv_link_scopes.specs.declared.kind.NameKind.TheVariants.{Prefix, Include}
use Rattle.yv_link_modules.specs.Links.{is_missing, is_wrong_link, is_not_included, is_at}
use Rattle.yv_link_modules.specs.Prefixes.{is_unknown, is_second}
use Rattle.yv_link_modules.specs.Dates.{IsOtherDate}
use Rattle.yv_link_modules.specs.Imports.{IsImportCycle}

-- what is wrong with the file of number n
abbrev pub BadFile : Briefs → List Row → ℕ → Brief → Refusal → Type 0
BadFile files rows n g f =
    Stands (not (is_at n (file_named files g.name)) ≡ true)
    (refusal_at code.DuplicateModule n g.head) f
    ⊎ Stands (is_not_included files (first_of Include rows) g ≡ true)
    (refusal_at code.Submodule n g.head) f

-- what is wrong with the statement of number k
abbrev pub BadRow : Briefs → List Row → ℕ → Row → Refusal → Type 0
BadRow files rows k r f =
    Stands (is_missing files r ≡ true) (refusal_at code.MissingModule r.file r.head) f
    ⊎ (Stands (IsOtherDate files rows r) (refusal_at code.Revision r.file r.head) f
    ⊎ (Stands (IsImportCycle files rows r) (refusal_at code.ImportCycle r.file r.head) f
    ⊎ (Stands ((is_unknown (first_of Prefix rows) r || is_second (first_of Prefix rows) k r) ≡ true)
    (refusal_at code.UnknownPrefix r.file r.head) f
    ⊎ Stands (is_wrong_link files r ≡ true) (refusal_at code.Submodule r.file r.head) f)))

-- a refusal applies to one of the files
abbrev pub BadFiles : Briefs → List Row → Refusal → Type 0
BadFiles files rows f = Among files (BadFile files rows) (length files) f

-- a refusal applies to one of the statements
abbrev pub BadRows : Briefs → List Row → Refusal → Type 0
BadRows files rows f = Among rows (BadRow files rows) (length rows) f

-- what is wrong with files and their statements
abbrev pub BadModules : Briefs → List Row → Refusal → Type 0
BadModules files rows f = BadFiles files rows f ⊎ BadRows files rows f
