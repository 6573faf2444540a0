-- Only private clauses cite this: a finding of which the column is known.
use Rattle.std.specs.Prelude.{ℕ, List, slice_get}
use Rattle.yv_base_positions.specs.LineStart.{IsLineStart}
use Rattle.yv_base_streams.specs.Files.{File}
use Rattle.yv_job.specs.declared.job.OutputForm.{OutputForm}
use Rattle.yv_job.specs.declared.job.OutputForm.TheVariants as form
use Rattle.yv_json_lines.specs.Values.{finding_value, json_line}
use Rattle.yv_lint.specs.Rules.{name_of}
use Rattle.yv_lint.specs.declared.finding.Finding.{Finding}
use Rattle.yv_run.specs.FileParts.{bytes_of_file, name_of_file}
use Rattle.yv_run.specs.FindingLines.{finding_line}
use Rattle.yv_run.specs.declared.findings.Mark.{Mark}

-- the place is one of the file with the mark's number
abbrev pub IsMark : List File → Mark → Type 0
IsMark files mark =
    IsLineStart (bytes_of_file (slice_get files mark.file)) mark.place.offset mark.place.line_start

-- a finding in a form, if it is in this column
abbrev pub text_at : OutputForm → List File → Finding → (column : ℕ) → List ℕ
text_at form.Text files f column = finding_line files f
text_at form.Json files f column =
    json_line (finding_value (name_of_file (slice_get files f.file)) f.line column f.offset
    (name_of f.rule))
