-- What a run of `lint` writes, and how it ends.
use Rattle.std.specs.Prelude.{◌≡◌, ℕ, List, [], ◌∷◌, IfOk, IsSomeAnd, map, string_bytes, take}
use Rattle.std.specs.List.{AllZip}
use Rattle.std.specs.Option.{option_map}
use Rattle.std.specs.declared.option.Option.{Option}
use Rattle.std.specs.declared.option.Option.TheVariants.{None}
use Rattle.yv_base_streams.specs.Files.{File}
use Rattle.yv_job.specs.Jobs.{Task}
use Rattle.yv_job.specs.declared.job.OutputForm.{OutputForm}
use Rattle.yv_lint.specs.Findings.{findings}
use Rattle.yv_lint.specs.RuleChoice.{RuleChoice}
use Rattle.yv_lint.specs.declared.finding.Finding.{Finding}
use Rattle.yv_nodes.specs.Rows.{Rows}
use Rattle.yv_note_findings.specs.Notes.{AreNotes}
use Rattle.yv_run.specs.Compiles.{FilesCompile, HasSchema, RefusedAt}
use Rattle.yv_run.specs.FindingLines.{findings_text}
use Rattle.yv_run.specs.Notes.{TellsRefusal}
use Rattle.yv_run.specs.Output.{Page, refusal_printed}
use Rattle.yv_run.specs.Runs.{Writes}
use Rattle.yv_run.specs.declared.status.Verdict.{Verdict}
use Rattle.yv_run.specs.declared.status.Verdict.TheVariants.{Clean, Refused}
use Rattle.yv_run.specs.declared.whole_run.RunEnd.{RunEnd}
use Rattle.yv_source.specs.FileStatements.{IsRead}
use Rattle.yv_text_statement.specs.Selection.{ModuleChoice}
use Rattle.yv_text_statement.specs.Tree.{Tree}
use Rattle.yv_text_statement.specs.declared.refusal.Refusal.{Refusal}

-- files are refused, or have findings
pub data LintResult : Type 0 where
  RefusedBy : Refusal → LintResult
  Finds : List Finding → LintResult

-- the names of the first files, as many as were named
abbrev pub named_paths : (named : ℕ) → List File → List (List ℕ)
named_paths named files = map (λ (f : File). f.name) (take named files)

-- What files come to under a choice and a limit: they are refused, or they give a schema, and then
-- their statements have the findings of the rules that are asked, in those that were named.
pub data FilesLint (choice : ModuleChoice) (limit : ℕ) (asked : RuleChoice) (named : ℕ)
    (files : List File) : LintResult → Type 0 where
  are_refused : {r : Refusal} → FilesCompile choice limit files (RefusedAt r)
      → FilesLint choice limit asked named files (RefusedBy r)
  have_findings : (schema : Rows) (trees : List Tree) → FilesCompile choice limit files (HasSchema schema)
      → AllZip IsRead files trees
      → FilesLint choice limit asked named files
      (Finds (findings asked choice (named_paths named files) trees))

-- files without findings are clean
abbrev pub findings_verdict : List Finding → Verdict
findings_verdict [] = Clean
findings_verdict (f ∷ fs) = Refused

-- what is printed of findings
abbrev pub findings_printed : OutputForm → List File → List Finding → Page
findings_printed f files fs =
    record { text = findings_text f files fs; verdict = findings_verdict fs }

-- a refusal's line, or those of findings
abbrev pub lint_printed : OutputForm → List File → LintResult → Page
lint_printed f files (RefusedBy r) = refusal_printed f files r
lint_printed f files (Finds fs) = findings_printed f files fs

-- the note on findings: none where there are none
abbrev pub NotesFindings : List File → List Finding → (note : Option (List ℕ)) → Type 0
NotesFindings files [] note = note ≡ None
NotesFindings files (f ∷ fs) note = IsSomeAnd note (AreNotes files (f ∷ fs))

-- the note on what files come to
abbrev pub NotesLint : List File → LintResult → (note : Option (List ℕ)) → Type 0
NotesLint files (RefusedBy r) note = IsSomeAnd note (TellsRefusal files r)
NotesLint files (Finds fs) note = NotesFindings files fs note

-- A run of `lint` with these files, which nothing stopped but maybe the writer: what they come to
-- was written, and the note is about it, unless there was no memory for the note.
pub record RunsLint (task : Task) (asked : RuleChoice) (named : ℕ) (files : List File)
    (run : RunEnd) (old new : Option (List ℕ)) : Type 0 where
  pub found : LintResult
  pub lints : FilesLint task.choice task.limit asked named files found
  pub writes : Writes (lint_printed task.output.form files found) run.status old new
  pub noted : IfOk run.note (λ note. NotesLint files found (option_map string_bytes note))
