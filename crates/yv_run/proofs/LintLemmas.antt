-- What a run of `lint` leaves, from what its parts answer.
use Rattle.std.proofs.Common.{◌≡◌, ℕ, zero, suc, List, [], ◌∷◌, map, take, string_bytes, refl, ap, subst, sym}
use Rattle.std.specs.List.{AllZip}
use Rattle.std.specs.declared.option.Option.{Option}
use Rattle.yv_base_streams.specs.Files.{File, file_of}
use Rattle.yv_base_streams.specs.declared.input.Input.{Input}
use Rattle.yv_job.specs.Jobs.{Task}
use Rattle.yv_lint.specs.Findings.{findings}
use Rattle.yv_lint.specs.RuleChoice.{RuleChoice}
use Rattle.yv_lint.specs.declared.finding.Finding.{Finding}
use Rattle.yv_nodes.specs.Rows.{Rows}
use Rattle.yv_run.proofs.FileLemmas.{failed, refuses_unread}
use Rattle.yv_run.specs.Compiles.{FilesCompile, HasSchema, RefusedAt}
use Rattle.yv_run.specs.InnerRun.{HasNote, WritesRefusal}
use Rattle.yv_run.specs.Lints.{FilesLint, Finds, NotesFindings, RefusedBy, RunsLint, are_refused, findings_printed, have_findings, named_paths}
use Rattle.yv_run.specs.Runs.{Writes}
use Rattle.yv_run.specs.declared.whole_run.RunEnd.{RunEnd}
use Rattle.yv_source.specs.FileStatements.{IsRead, IsUnreadAt}
use Rattle.yv_text_statement.specs.Tree.{Tree}
use Rattle.yv_text_statement.specs.declared.refusal.Refusal.{Refusal}
use Rattle.yv_text_statement.specs.declared.refusal.Stop.{Stop}
use Rattle.yv_text_statement.specs.declared.refusal.Stop.TheVariants.{Fault}

-- findings were written
pub found_lint : (task : Task) (asked : RuleChoice) (named : ℕ) (files : List File) (ts : List Tree) (fs : List Finding) (s : Rows) (e : RunEnd) (old new : Option (List ℕ))
    → FilesCompile task.choice task.limit files (HasSchema s) → AllZip IsRead files ts → fs ≡ findings asked task.choice (named_paths named files) ts
    → Writes (findings_printed task.output.form files fs) e.status old new → HasNote (NotesFindings files fs) e → RunsLint task asked named files e old new
found_lint task asked named files ts fs s e old new compiles read is writes noted = record {
  found = Finds fs;
  lints = subst (λ (xs : List Finding). FilesLint task.choice task.limit asked named files (Finds xs)) (sym is) (have_findings s ts compiles read);
  writes = writes;
  noted = noted;
}

-- a refusal was
pub refused_lint : {A : Type 0} (task : Task) (asked : RuleChoice) (named : ℕ) (files : List File) (stop : Stop) (e : RunEnd) (old new : Option (List ℕ)) → WritesRefusal task.output.form files stop e old new
    → ((r : Refusal) → failed A Stop stop ≡ failed A Stop (Fault r) → FilesCompile task.choice task.limit files (RefusedAt r)) → RunsLint task asked named files e old new
refused_lint {A} task asked named files stop e old new h refuses = record {
  found = RefusedBy h.refusal;
  lints = are_refused (refuses h.refusal (ap (failed A Stop) h.is));
  writes = h.writes;
  noted = h.noted;
}

-- one of a file that can't be read
pub unread_lint : {A : Type 0} (task : Task) (asked : RuleChoice) (named : ℕ) (files : List File) (stop : Stop) (e : RunEnd) (old new : Option (List ℕ)) → WritesRefusal task.output.form files stop e old new
    → ((r : Refusal) → failed A Stop stop ≡ failed A Stop (Fault r) → IsUnreadAt files r) → RunsLint task asked named files e old new
unread_lint task asked named files stop e old new h unread =
    refused_lint task asked named files stop e old new h (λ r is. refuses_unread task.choice task.limit files r (unread r is))

-- the names of the first inputs are those of the first files
pub first_paths : (n : ℕ) (inputs : List Input) → map (λ (i : Input). string_bytes i.name) (take n inputs) ≡ named_paths n (map file_of inputs)
first_paths zero inputs = refl
first_paths (suc n) [] = refl
first_paths (suc n) (i ∷ inputs) = ap (λ (ps : List (List ℕ)). string_bytes i.name ∷ ps) (first_paths n inputs)
