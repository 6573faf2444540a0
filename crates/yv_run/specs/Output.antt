-- What a run writes, and how it ends.
use Rattle.std.specs.Prelude.{◌≡◌, ℕ, List, [], ◌∷◌, ◌++◌, Bool, true, false, take, codes, IfSome, map, string_bytes, option_map, slice_get}
use Rattle.std.specs.declared.option.Option.{Option}
use Rattle.std.specs.declared.option.Option.TheVariants.{Some, None}
use Rattle.std.specs.declared.result.Result.{Result}
use Rattle.std.specs.declared.result.Result.TheVariants.{Ok, Err}
use Rattle.std.specs.Fmt.{decimal}
use Rattle.serde_json.specs.Data.{Data}
use Rattle.yv_text_statement.specs.Codes.{name_of}
use Rattle.yv_text_statement.specs.declared.refusal.Refusal.{Refusal}
use Rattle.yv_nodes.specs.Tree.{count as node_count}
use Rattle.yv_nodes.specs.Rows.{Rows, whole}
use Rattle.yv_text_statement.specs.declared.document_kind.Kind.{Kind}
use Rattle.yv_schema_tables.specs.Measures.{measures_of}
use Rattle.yv_schema_tables.specs.declared.measures.Measures.{Measures}
use Rattle.yv_tree.specs.DrawnModules.{diagrams_of}
use Rattle.yv_tree.specs.declared.diagrams.Missing.{Missing}
use Rattle.yv_tree.specs.declared.diagrams.Missing.TheVariants as missing
use Rattle.yv_tree_drawing.specs.Trees.{TreeAsked}
use Rattle.yv_job.specs.Jobs.{CommandAsked, Compiles, Draws, Checks, Task}
use Rattle.yv_job.specs.declared.job.OutputForm.{OutputForm}
use Rattle.yv_job.specs.declared.job.OutputForm.TheVariants as form
use Rattle.yv_job.specs.declared.job.OutputOptions.{OutputOptions}
use Rattle.yv_data_faults.specs.Flaw.{Flaw}
use Rattle.yv_validate.specs.Faults.{faults}
use Rattle.yv_base_positions.specs.Column.{column}
use Rattle.yv_json_lines.specs.Values.{count_value, json_line, refusal_value}
use Rattle.yv_json_lines.specs.declared.document.ValidationCost.{ValidationCost}
use Rattle.yv_documents.specs.VerdictText.{checked_text, with_end}
use Rattle.yv_documents.specs.Lines.{ended_line}
use Rattle.yv_documents.specs.Steps.{cost_if, steps_line}
use Rattle.yv_run.specs.FileParts.{bytes_of_file, name_of_file}
use Rattle.yv_run.specs.FindingLines.{findings_text}
use Rattle.yv_run.specs.Compiles.{Compilation, RefusedAt, HasSchema, FilesCompile, GiveSchema}
use Rattle.yv_documents.specs.Document.{DocumentText, TooLarge, NotJson, Reads, document_text}
use Rattle.yv_base_streams.specs.Files.{File, file_of}
use Rattle.yv_run.specs.declared.print.Body.{Body}
use Rattle.yv_run.specs.declared.print.Body.TheVariants.{Text, Diagrams, Faults, Compiled}
use Rattle.yv_run.specs.declared.print.CompilationResult.{CompilationResult}
use Rattle.yv_run.specs.declared.print.CompilationResult.TheVariants as compilation
use Rattle.yv_run.specs.declared.print.Output.{Output}
use Rattle.yv_run.specs.declared.status.Status.{Status}
use Rattle.yv_run.specs.declared.status.Status.TheVariants as ended
use Rattle.yv_run.specs.declared.status.Verdict.{Verdict}
use Rattle.yv_run.specs.declared.status.Verdict.TheVariants.{Clean, Refused, BadInput}

-- a text, and what was found
pub record Page : Type 0 where
  pub text : List ℕ
  pub verdict : Verdict

-- FILE:LINE: NAME
abbrev pub refusal_line : List File → Refusal → List ℕ
refusal_line files r =
    ended_line (name_of_file (slice_get files r.file)
    ++ (58 ∷ decimal r.line ++ codes ": " ++ name_of r.code))

-- the same as a JSON object, with the column and the offset
abbrev pub refusal_object : List File → Refusal → Data
refusal_object files r =
    let file = slice_get files r.file in
    refusal_value (name_of_file file) r.line (column (bytes_of_file file) r.offset) r.offset
    (name_of r.code)

-- a refusal in a form
abbrev pub refusal_text : OutputForm → List File → Refusal → List ℕ
refusal_text form.Text files r = refusal_line files r
refusal_text form.Json files r = json_line (refusal_object files r)

-- the line of what a validation cost, where that is said
abbrev pub cost_end : Option ValidationCost → Option (List ℕ)
cost_end None = None
cost_end (Some cost) = Some (ended_line (steps_line cost))

-- a document without faults is valid
abbrev pub faults_verdict : List Flaw → Verdict
faults_verdict [] = Clean
faults_verdict (f ∷ fs) = Refused

-- what is printed of faults, and of what the validation cost, where that is said
abbrev pub faults_printed : Option ValidationCost → List Flaw → Page
faults_printed cost fs =
    record { text = with_end (checked_text fs) (cost_end cost); verdict = faults_verdict fs }

-- what is printed of a document that is too large or not JSON
abbrev pub bad_input : List ℕ → Page
bad_input text = record { text = ended_line text; verdict = BadInput }

-- what is said of a document of a kind, by what its bytes are
abbrev pub reading_printed : (measures : Bool) → Kind → Rows → DocumentText → Page
reading_printed measures k s TooLarge = bad_input (codes "data: too large")
reading_printed measures k s NotJson = bad_input (codes "data: not JSON")
reading_printed measures k s (Reads d) = faults_printed (cost_if measures k s d) (faults k s d)

-- what is printed of a document of these bytes
abbrev pub data_printed : (measures : Bool) → Kind → Rows → List ℕ → Page
data_printed measures k s given = reading_printed measures k s (document_text given)

-- the measures of a schema, where they are asked for
abbrev pub measures_if : (measures : Bool) → Rows → Option Measures
measures_if false s = None
measures_if true s = Some (measures_of (whole s))

-- a line for each measure
abbrev pub measures_lines : Measures → List ℕ
measures_lines ms = ended_line (codes "m: " ++ decimal ms.m)
    ++ (ended_line (codes "u: " ++ decimal ms.u) ++ ended_line (codes "w: " ++ decimal ms.w))

-- the same, where there are measures
abbrev pub measures_end : Option Measures → Option (List ℕ)
measures_end None = None
measures_end (Some ms) = Some (measures_lines ms)

-- `nodes: N`, and the measures, in a form
abbrev pub count_text : OutputForm → (nodes : ℕ) → Option Measures → List ℕ
count_text form.Text nodes measures =
    with_end (ended_line (codes "nodes: " ++ decimal nodes)) (measures_end measures)
count_text form.Json nodes measures = json_line (count_value nodes measures)

-- what is printed of a schema: how many nodes it has, and its measures, where they are asked for
abbrev pub count_printed : OutputOptions → Rows → Page
count_printed o s = record {
  text = count_text o.form (node_count (whole s)) (measures_if o.measures s);
  verdict = Clean;
}

-- what is missing of what is to be drawn
abbrev pub missing_line : Missing → List ℕ
missing_line missing.Module = codes "tree: no such module"
missing_line missing.Node = codes "tree: no such node"

-- diagrams, or what is missing
abbrev pub drawn_printed : (diagrams : Result (List ℕ) Missing) → Page
drawn_printed (Err what) = record { text = ended_line (missing_line what); verdict = Refused }
drawn_printed (Ok text) = record { text = text; verdict = Clean }

-- the diagrams that are asked for
abbrev pub tree_printed : Rows → TreeAsked → Page
tree_printed s t = drawn_printed (diagrams_of s t)

-- what is said of a schema, by what was asked
abbrev pub schema_printed : CommandAsked → OutputOptions → Kind → Rows → List ℕ → Page
schema_printed Compiles o k s given = count_printed o s
schema_printed (Draws t) o k s given = tree_printed s t
schema_printed (Checks f) o k s given = data_printed o.measures k s given

-- what is printed of refused files
abbrev pub refusal_printed : OutputForm → List File → Refusal → Page
refusal_printed f files r = record { text = refusal_text f files r; verdict = Refused }

-- a refusal's line, or what is said of the schema
abbrev pub compiled_printed : Task → List File → Compilation → List ℕ → Page
compiled_printed task files (RefusedAt r) given = refusal_printed task.output.form files r
compiled_printed task files (HasSchema s) given =
    schema_printed task.asked task.output task.kind s given

-- what a run prints that is to do this task with these files, where the document's bytes are
-- `given`
abbrev pub IsOutput : Task → List File → List ℕ → Page → Type 0
IsOutput task files given p = (c : Compilation) × FilesCompile task.choice task.limit files c
    × (compiled_printed task files c given ≡ p)

-- a document is read for this
abbrev pub ReadsData : CommandAsked → Type 0
ReadsData Compiles = ⊥
ReadsData (Draws m) = ⊥
ReadsData (Checks f) = Unit {0}

-- the task is to check a document, and the files give a schema
abbrev pub WantsData : Task → List File → Type 0
WantsData task files = ReadsData task.asked × GiveSchema task.choice task.limit files

-- the bytes that a reader gives, up to one more than a document may have, where they are known
abbrev pub Gives : Option (List ℕ) → List ℕ → Type 0
Gives known given = IfSome known (λ xs. given ≡ take 16777217 xs)

-- want of memory, a pattern's build or the reader stopped the run
abbrev pub IsStopped : Status → Type 0
IsStopped ended.Clean = ⊥
IsStopped ended.Refused = ⊥
IsStopped ended.BadInput = ⊥
IsStopped ended.NoMemory = Unit {0}
IsStopped ended.PatternBuild = Unit {0}
IsStopped ended.ReadFault = Unit {0}
IsStopped ended.WriteFault = ⊥

-- the bytes of the result of a compilation
abbrev pub compilation_text : CompilationResult → List ℕ
compilation_text (compilation.Count f nodes measures) = count_text f nodes measures
compilation_text (compilation.Refusal file at code) =
    json_line (refusal_value (string_bytes file) at.line at.column at.offset code.now)
compilation_text (compilation.Findings f inputs fs) =
    findings_text f (map file_of inputs.now) fs.now

-- the bytes of a text, of diagrams, of the lines of faults, or of the result of a compilation
abbrev pub body_text : Body → List ℕ
body_text (Text text) = string_bytes text
body_text (Diagrams text) = text
body_text (Faults list end) = with_end (checked_text list.items) (option_map string_bytes end)
body_text (Compiled r) = compilation_text r

-- what an output of the code prints
abbrev pub printed_of : Output → Page
printed_of o = record { text = body_text o.body; verdict = o.verdict }
