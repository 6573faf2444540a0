-- Only private clauses cite this: hexadecimal digits, and pieces of lines, each a text with the
-- comma before it.
use Rattle.std.specs.Prelude.{ℕ, ◌+◌, ◌-◌, ◌==◌, nat_lt, List, [], ◌++◌, codes, decimal, if◌then◌else◌}
use Rattle.std.specs.declared.option.Option.{Option}
use Rattle.std.specs.declared.option.Option.TheVariants.{None, Some}
use Rattle.json.specs.Print.{quoted}
use Rattle.yv_schema_tables.specs.declared.measures.Measures.{Measures}
use Rattle.yv_data_faults.specs.Flaw.{Flaw}
use Rattle.yv_data_faults.specs.Line.{kind_name, path_text}
use Rattle.yv_json_lines.specs.Pointer.{pointer_text}
use Rattle.yv_json_lines.specs.declared.document.DocumentVerdict.{DocumentVerdict}
use Rattle.yv_json_lines.specs.declared.document.DocumentVerdict.TheVariants as verdict
use Rattle.yv_json_lines.specs.declared.document.ValidationCost.{ValidationCost}

abbrev pub line_piece : Option ℕ → List ℕ
line_piece None = []
line_piece (Some n) = codes ",\"line\":" ++ decimal n

abbrev pub position_piece : (line column offset : ℕ) → List ℕ
position_piece line column offset =
    (codes ",\"line\":" ++ decimal line) ++ ((codes ",\"column\":" ++ decimal column)
    ++ (codes ",\"offset\":" ++ decimal offset))

abbrev pub place_piece : (file : List ℕ) → (line column offset : ℕ) → (code : List ℕ) → List ℕ
place_piece file line column offset code =
    quoted file ++ (position_piece line column offset ++ (codes ",\"code\":"
    ++ (quoted code ++ codes "}")))

abbrev pub measures_piece : Option Measures → List ℕ
measures_piece None = []
measures_piece (Some measures) =
    (codes ",\"m\":" ++ decimal measures.m) ++ ((codes ",\"u\":" ++ decimal measures.u)
    ++ (codes ",\"w\":" ++ decimal measures.w))

abbrev pub cost_piece : Option ValidationCost → List ℕ
cost_piece None = []
cost_piece (Some cost) =
    (codes ",\"n\":" ++ decimal cost.size) ++ ((codes ",\"steps\":" ++ decimal cost.steps)
    ++ (codes ",\"bound\":" ++ decimal cost.bound))

abbrev pub faults_piece : DocumentVerdict → List ℕ
faults_piece (verdict.Validated faults cost) =
    (codes ",\"faults\":" ++ decimal faults) ++ cost_piece cost
faults_piece verdict.TooLarge = []
faults_piece verdict.NotJson = []
faults_piece verdict.CannotRead = []
faults_piece verdict.OutOfMemory = []

abbrev pub flaw_piece : Flaw → List ℕ
flaw_piece f =
    codes ",\"kind\":" ++ (quoted (kind_name f.kind) ++ (codes ",\"path\":"
    ++ (quoted (path_text f.path)
    ++ (codes ",\"pointer\":" ++ quoted (pointer_text f.kind f.path)))))

abbrev pub unique_piece : ℕ → List ℕ
unique_piece n = if n == 0 then [] else codes ",\"unique\":" ++ decimal n

abbrev pub digit_from : (ten : ℕ) → ℕ → ℕ
digit_from ten n = if nat_lt n 10 then 48 + n else ten + n - 10
