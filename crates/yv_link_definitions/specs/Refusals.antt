-- What is wrong with the names of definitions.
use Rattle.std.specs.Prelude.{◌≡◌, ℕ, ◌⊎◌, true, List, length, map}
use Rattle.yv_text_statement.specs.Order.{Stands, Among, refusal_at}
use Rattle.yv_text_statement.specs.declared.refusal.Refusal.{Refusal}
use Rattle.yv_text_statement.specs.declared.refusal.Code.TheVariants as code
use Rattle.yv_link_scopes.specs.Files.{Files, Briefs, brief_of}
use Rattle.yv_link_scopes.specs.Rows.{Row}
use Rattle.yv_link_scopes.specs.RowList.{rows_of}
use Rattle.yv_link_scopes.specs.declared.kind.NameKind.{NameKind}
use Rattle.yv_link_scopes.specs.declared.kind.NameKind.TheVariants.{Typedef, Grouping}
use Rattle.yv_link_definitions.specs.Duplicates.{is_of, IsTaken}
use Rattle.yv_link_definitions.specs.Refers.{IsUnknown}
use Rattle.yv_link_definitions.specs.Leads.{LeadsTo}

-- a definition of the kind leads to itself
abbrev pub IsOnCycle : Briefs → List Row → NameKind → ℕ → Row → Type 0
IsOnCycle files rows kind k r = (is_of kind r ≡ true) × LeadsTo files rows k k

-- what is wrong with the numbered statement
abbrev pub BadRow : Briefs → List Row → ℕ → Row → Refusal → Type 0
BadRow files rows k r f =
    Stands (IsTaken rows k r) (refusal_at code.DuplicateName r.file r.head) f
    ⊎ (Stands (IsUnknown files rows Typedef k r) (refusal_at code.UnknownType r.file r.head) f
    ⊎ (Stands (IsOnCycle files rows Typedef k r) (refusal_at code.TypeCycle r.file r.head) f
    ⊎ (Stands (IsUnknown files rows Grouping k r) (refusal_at code.UnknownGrouping r.file r.head) f
    ⊎ Stands (IsOnCycle files rows Grouping k r) (refusal_at code.GroupingCycle r.file r.head) f)))

-- what is wrong with one of the statements
abbrev pub BadIn : Briefs → List Row → Refusal → Type 0
BadIn files rows f = Among rows (BadRow files rows) (length rows) f

-- what is wrong with the names of definitions in files
abbrev pub BadNames : Files → Refusal → Type 0
BadNames files f = BadIn (map brief_of files) (rows_of files) f
