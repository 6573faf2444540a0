-- The lines of findings.
use Rattle.std.specs.Prelude.{ℕ, List, ◌∷◌, ◌++◌, codes, length, slice_get}
use Rattle.std.specs.Fmt.{decimal}
use Rattle.std.specs.List.{flat_map}
use Rattle.serde_json.specs.Data.{Data}
use Rattle.yv_base_positions.specs.Column.{column}
use Rattle.yv_base_streams.specs.Files.{File}
use Rattle.yv_documents.specs.Lines.{ended_line}
use Rattle.yv_job.specs.declared.job.OutputForm.{OutputForm}
use Rattle.yv_job.specs.declared.job.OutputForm.TheVariants as form
use Rattle.yv_json_lines.specs.Values.{finding_value, json_line, linted_value}
use Rattle.yv_lint.specs.Rules.{name_of}
use Rattle.yv_lint.specs.declared.finding.Finding.{Finding}
use Rattle.yv_run.specs.FileParts.{bytes_of_file, name_of_file}

-- FILE:LINE: RULE
abbrev pub finding_line : List File → Finding → List ℕ
finding_line files f =
    ended_line (name_of_file (slice_get files f.file)
    ++ (58 ∷ decimal f.line ++ codes ": " ++ name_of f.rule))

-- the same as a JSON object, with the column and the offset
abbrev pub finding_object : List File → Finding → Data
finding_object files f =
    let file = slice_get files f.file in
    finding_value (name_of_file file) f.line (column (bytes_of_file file) f.offset) f.offset
    (name_of f.rule)

-- a finding in a form
abbrev pub finding_text : OutputForm → List File → Finding → List ℕ
finding_text form.Text files f = finding_line files f
finding_text form.Json files f = json_line (finding_object files f)

-- `findings: N` in a form
abbrev pub findings_end : OutputForm → ℕ → List ℕ
findings_end form.Text count = ended_line (codes "findings: " ++ decimal count)
findings_end form.Json count = json_line (linted_value count)

-- a line for each finding, and how many there are
abbrev pub findings_text : OutputForm → List File → List Finding → List ℕ
findings_text f files fs = flat_map (finding_text f files) fs ++ findings_end f (length fs)
