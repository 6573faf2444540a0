-- The objects of which a line each is written, as `serde_json` has them, with their members in
-- order.
use Rattle.std.specs.Prelude.{ℕ, ◌==◌, List, [], ◌∷◌, ◌++◌, codes, if◌then◌else◌}
use Rattle.std.specs.Str.{is_utf8}
use Rattle.std.specs.declared.option.Option.{Option}
use Rattle.std.specs.declared.option.Option.TheVariants.{None, Some}
use Rattle.serde_json.specs.Data.{Data, Members, member, no_members, number, object, string, unsigned}
use Rattle.serde_json.specs.Written.{compact_text}
use Rattle.yv_schema_tables.specs.declared.measures.Measures.{Measures}
use Rattle.yv_data_faults.specs.Flaw.{Flaw}
use Rattle.yv_data_faults.specs.Line.{escape, kind_name, path_text}
use Rattle.yv_json_lines.specs.Pointer.{pointer_text}
use Rattle.yv_json_lines.specs.declared.document.DocumentVerdict.{DocumentVerdict}
use Rattle.yv_json_lines.specs.declared.document.DocumentVerdict.TheVariants as verdict
use Rattle.yv_json_lines.specs.declared.document.ValidationCost.{ValidationCost}

-- the text of a value without blanks, and a line feed
abbrev pub json_line : Data → List ℕ
json_line value = compact_text value ++ 10 ∷ []

-- a member that has a text, before others
abbrev pub text_member : (name text : List ℕ) → Members → Members
text_member name text others = member name (string text) others

-- a member that has a number, before others
abbrev pub number_member : (name : List ℕ) → ℕ → Members → Members
number_member name n others = member name (number (unsigned n)) others

-- an object with a result, and with others
abbrev pub result_value : (result : List ℕ) → Members → Data
result_value result others = object (text_member (codes "result") result others)

-- what a schema measures, where it is said
abbrev pub measures_members : Option Measures → Members
measures_members None = no_members
measures_members (Some measures) =
    number_member (codes "m") measures.m (number_member (codes "u") measures.u
    (number_member (codes "w") measures.w no_members))

-- modules that compiled to so many nodes, and what their schema measures, where it is said
abbrev pub count_value : (nodes : ℕ) → Option Measures → Data
count_value nodes measures =
    result_value (codes "compiled")
    (number_member (codes "nodes") nodes (measures_members measures))

-- a result at a position of a file: the line and the column from 1, the offset in bytes from 0, and
-- the name of what is there
abbrev pub place_value : (result file : List ℕ) → (line column offset : ℕ) → (code : List ℕ) → Data
place_value result file line column offset code =
    result_value result (text_member (codes "file") file
    (number_member (codes "line") line (number_member (codes "column") column
    (number_member (codes "offset") offset (text_member (codes "code") code no_members)))))

-- modules that were refused: the position, and the name of the refusal
abbrev pub refusal_value : (file : List ℕ) → (line column offset : ℕ) → (code : List ℕ) → Data
refusal_value file line column offset code =
    place_value (codes "refused") file line column offset code

-- a finding on a statement: the position, and the name of the rule
abbrev pub finding_value : (file : List ℕ) → (line column offset : ℕ) → (code : List ℕ) → Data
finding_value file line column offset code =
    place_value (codes "finding") file line column offset code

-- modules that were searched, and the number of findings on them
abbrev pub linted_value : (findings : ℕ) → Data
linted_value findings =
    result_value (codes "linted") (number_member (codes "findings") findings no_members)

-- the name of a document: as it is if it is UTF-8, else as its label has it
abbrev pub shown_name : List ℕ → List ℕ
shown_name name = if is_utf8 name then name else escape name

-- the number of a document's line, where it has one
abbrev pub line_member : Option ℕ → Members → Members
line_member None others = others
line_member (Some n) others = number_member (codes "line") n others

-- a document's name and line
abbrev pub doc_members : (name : List ℕ) → (line : Option ℕ) → Members → Members
doc_members name line others =
    text_member (codes "document") (shown_name name) (line_member line others)

-- the number of a `unique` statement; other faults have the number 0
abbrev pub unique_member : ℕ → Members → Members
unique_member n others = if n == 0 then others else number_member (codes "unique") n others

-- a fault of a document
abbrev pub fault_value : (name : List ℕ) → (line : Option ℕ) → Flaw → Data
fault_value name line f =
    result_value (codes "fault") (doc_members name line
    (text_member (codes "kind") (kind_name f.kind) (text_member (codes "path") (path_text f.path)
    (text_member (codes "pointer") (pointer_text f.kind f.path)
    (unique_member f.number no_members)))))

-- what a verdict is called
abbrev pub verdict_name : DocumentVerdict → List ℕ
verdict_name (verdict.Validated faults cost) =
    if faults == 0 then codes "valid" else codes "faulty"
verdict_name verdict.TooLarge = codes "too-large"
verdict_name verdict.NotJson = codes "not-json"
verdict_name verdict.CannotRead = codes "cannot-read"
verdict_name verdict.OutOfMemory = codes "out-of-memory"

-- what a validation cost, where it is said: the members and items of the document, the steps that
-- were taken, and the most that it may take
abbrev pub cost_members : Option ValidationCost → Members
cost_members None = no_members
cost_members (Some cost) =
    number_member (codes "n") cost.size (number_member (codes "steps") cost.steps
    (number_member (codes "bound") cost.bound no_members))

-- the number of faults of a document that was validated, and the cost of that, where it is said
abbrev pub faults_members : DocumentVerdict → Members
faults_members (verdict.Validated faults cost) =
    number_member (codes "faults") faults (cost_members cost)
faults_members verdict.TooLarge = no_members
faults_members verdict.NotJson = no_members
faults_members verdict.CannotRead = no_members
faults_members verdict.OutOfMemory = no_members

-- the end of what is said of a document
abbrev pub document_value : (name : List ℕ) → (line : Option ℕ) → DocumentVerdict → Data
document_value name line v =
    result_value (codes "document") (doc_members name line
    (text_member (codes "verdict") (verdict_name v) (faults_members v)))

-- documents that were answered, and how many of them are valid
abbrev pub run_value : (documents valid : ℕ) → Data
run_value documents valid =
    result_value (codes "run") (number_member (codes "documents") documents
    (number_member (codes "valid") valid no_members))
