-- No line has a line feed before its end.
use Rattle.std.proofs.Common.{◌≡◌, ◌<◌, ◌≤◌, ◌^◌, ◌/◌, ◌%◌, ◌+◌, ◌==◌, ℕ, List, [], ◌∷◌, ◌++◌, Bool, true, false, cond, refl, codes, decimal, arith, nat_lt}
use Rattle.std.specs.Char.{digit_char}
use Rattle.std.specs.List.{All}
use Rattle.std.specs.declared.option.Option.{Option}
use Rattle.std.specs.declared.option.Option.TheVariants.{None, Some}
use Rattle.std.proofs.lemmas.Bool.Decides.{nat_tests}
use Rattle.std.proofs.lemmas.Fmt.{decimal_by_steps}
use Rattle.std.proofs.lemmas.List.Elements.{All-append, All-cons, All-nil}
use Rattle.json.specs.Print.{escape, escape_byte, escape_letter, quoted}
use Rattle.serde_json.specs.Data.{Members, no_members}
use Rattle.serde_json.specs.Written.{comma_if, members_text}
use Rattle.yv_schema_tables.specs.declared.measures.Measures.{Measures}
use Rattle.yv_data_faults.specs.Flaw.{Flaw}
use Rattle.yv_data_faults.specs.Line.{kind_name, path_text}
use Rattle.yv_json_lines.specs.OneLine.{CostFits, Fits, IsInLine, IsOneLine, LineFits, MeasuresFit, VerdictFits}
use Rattle.yv_json_lines.specs.Pointer.{pointer_text}
use Rattle.yv_json_lines.specs.Values.{cost_members, count_value, document_value, fault_value, faults_members, finding_value, json_line, line_member, linted_value, measures_members, number_member, place_value, refusal_value, result_value, run_value, shown_name, text_member, verdict_name}
use Rattle.yv_json_lines.specs.declared.document.DocumentVerdict.{DocumentVerdict}
use Rattle.yv_json_lines.specs.declared.document.DocumentVerdict.TheVariants as verdict
use Rattle.yv_json_lines.specs.declared.document.ValidationCost.{ValidationCost}

one : (b : ℕ) → IsInLine b → All IsInLine (b ∷ [])
one b h = All-cons IsInLine b [] h (All-nil IsInLine)

large : (b : ℕ) → 32 ≤ b → IsInLine b
large b le = (omega arith, omega arith)

letter_in_line : (b : ℕ) → IsInLine (escape_letter b)
letter_in_line b = (grind (arith, nat_tests), grind (arith, nat_tests))

digit_in_line : (n : ℕ) → n < 16 → IsInLine (digit_char n)
digit_in_line n lt = (grind (arith, nat_tests), grind (arith, nat_tests))

control_in_line : (b : ℕ) → b < 32 → All IsInLine (92 ∷ 117 ∷ 48 ∷ 48 ∷ digit_char (b / 16) ∷ digit_char (b % 16) ∷ [])
control_in_line b lt =
    let high = digit_char (b / 16) in
    let low = digit_char (b % 16) in
    All-cons IsInLine 92 (117 ∷ 48 ∷ 48 ∷ high ∷ low ∷ []) (large 92 (omega arith)) (All-cons IsInLine 117 (48 ∷ 48 ∷ high ∷ low ∷ []) (large 117 (omega arith))
    (All-cons IsInLine 48 (48 ∷ high ∷ low ∷ []) (large 48 (omega arith)) (All-cons IsInLine 48 (high ∷ low ∷ []) (large 48 (omega arith))
    (All-cons IsInLine high (low ∷ []) (digit_in_line (b / 16) (omega arith)) (one low (digit_in_line (b % 16) (omega arith)))))))

byte_by : (b : ℕ) (is_short is_control : Bool) → nat_lt b 32 ≡ is_control
    → All IsInLine (cond is_short (92 ∷ escape_letter b ∷ []) (cond is_control (92 ∷ 117 ∷ 48 ∷ 48 ∷ digit_char (b / 16) ∷ digit_char (b % 16) ∷ []) (b ∷ [])))
byte_by b true is_control e = All-cons IsInLine 92 (escape_letter b ∷ []) (large 92 (omega arith)) (one (escape_letter b) (letter_in_line b))
byte_by b false true e = control_in_line b (grind (arith, nat_tests))
byte_by b false false e = one b (large b (grind (arith, nat_tests)))

byte_in_line : (b : ℕ) → All IsInLine (escape_byte b)
unfolding escape_byte
byte_in_line b = byte_by b (nat_lt 0 (escape_letter b)) (nat_lt b 32) refl

escape_in_line : (s : List ℕ) → All IsInLine (escape s)
escape_in_line [] = All-nil IsInLine
escape_in_line (b ∷ bs) = All-append IsInLine (escape_byte b) (escape bs) (byte_in_line b) (escape_in_line bs)

quoted_in_line : (s : List ℕ) → All IsInLine (quoted s)
quoted_in_line s = All-cons IsInLine 34 (escape s ++ 34 ∷ []) (large 34 (omega arith)) (All-append IsInLine (escape s) (34 ∷ []) (escape_in_line s) (one 34 (large 34 (omega arith))))

decimal_in_line : (n : ℕ) → n < 2 ^ 64 → All IsInLine (decimal n)
decimal_in_line = decimal_by_steps (λ n ds. All IsInLine ds) (λ n lt. one (48 + n) (large (48 + n) (omega arith)))
    (λ n ds le h. All-append IsInLine ds ((48 + n % 10) ∷ []) h (one (48 + n % 10) (large (48 + n % 10) (omega arith))))

comma_in_line : (later : Bool) → All IsInLine (comma_if later)
comma_in_line true = one 44 (large 44 (omega arith))
comma_in_line false = All-nil IsInLine

-- ---- members

AreInLine : Bool → Members → Type 0
AreInLine later ms = All IsInLine (members_text later ms)

at_end : (later : Bool) → AreInLine later no_members
unfolding AreInLine
at_end later = one 125 (large 125 (omega arith))

-- the rest of a member's text
member_in_line : (later : Bool) (k text rest : List ℕ) → All IsInLine text → All IsInLine rest → All IsInLine (comma_if later ++ (quoted k ++ 58 ∷ (text ++ rest)))
member_in_line later k text rest h more =
    All-append IsInLine (comma_if later) (quoted k ++ 58 ∷ (text ++ rest)) (comma_in_line later)
    (All-append IsInLine (quoted k) (58 ∷ (text ++ rest)) (quoted_in_line k) (All-cons IsInLine 58 (text ++ rest) (large 58 (omega arith)) (All-append IsInLine text rest h more)))

with_text : (later : Bool) (k s : List ℕ) (ms : Members) → AreInLine true ms → AreInLine later (text_member k s ms)
unfolding AreInLine
with_text later k s ms h = member_in_line later k (quoted s) (members_text true ms) (quoted_in_line s) h

with_number : (later : Bool) (k : List ℕ) (n : ℕ) (ms : Members) → Fits n → AreInLine true ms → AreInLine later (number_member k n ms)
unfolding AreInLine
with_number later k n ms fits h = member_in_line later k (decimal n) (members_text true ms) (decimal_in_line n fits) h

with_line : (line : Option ℕ) (ms : Members) → LineFits line → AreInLine true ms → AreInLine true (line_member line ms)
with_line None ms fits h = h
with_line (Some n) ms fits h = with_number true (codes "line") n ms fits h

with_measures : (measures : Option Measures) → MeasuresFit measures → AreInLine true (measures_members measures)
with_measures None fit = at_end true
with_measures (Some s) fit =
    with_number true (codes "m") s.m _ fit.0 (with_number true (codes "u") s.u _ fit.1 (with_number true (codes "w") s.w no_members fit.2 (at_end true)))

with_cost : (cost : Option ValidationCost) → CostFits cost → AreInLine true (cost_members cost)
with_cost None fits = at_end true
with_cost (Some c) fits =
    with_number true (codes "n") c.size _ fits.0 (with_number true (codes "steps") c.steps _ fits.1 (with_number true (codes "bound") c.bound no_members fits.2 (at_end true)))

with_faults : (v : DocumentVerdict) → VerdictFits v → AreInLine true (faults_members v)
with_faults (verdict.Validated faults cost) fits = with_number true (codes "faults") faults _ fits.0 (with_cost cost fits.1)
with_faults verdict.TooLarge fits = at_end true
with_faults verdict.NotJson fits = at_end true
with_faults verdict.CannotRead fits = at_end true
with_faults verdict.OutOfMemory fits = at_end true

unique_if : (is_none : Bool) (n : ℕ) → Fits n → AreInLine true (cond is_none no_members (number_member (codes "unique") n no_members))
unique_if true n fits = at_end true
unique_if false n fits = with_number true (codes "unique") n no_members fits (at_end true)

-- ---- lines

line_of : (result : List ℕ) (ms : Members) → AreInLine true ms → IsOneLine (json_line (result_value result ms))
unfolding AreInLine
line_of result ms h = record {
  front = 123 ∷ members_text false (text_member (codes "result") result ms);
  ends = refl;
  others = All-cons IsInLine 123 (members_text false (text_member (codes "result") result ms)) (large 123 (omega arith)) (with_text false (codes "result") result ms h);
}

pub count_line : (nodes : ℕ) (measures : Option Measures) → Fits nodes → MeasuresFit measures → IsOneLine (json_line (count_value nodes measures))
count_line nodes measures fits fit = line_of (codes "compiled") _ (with_number true (codes "nodes") nodes _ fits (with_measures measures fit))

pub run_line : (documents valid : ℕ) → Fits documents → Fits valid → IsOneLine (json_line (run_value documents valid))
run_line documents valid fits less = line_of (codes "run") _ (with_number true (codes "documents") documents _ fits (with_number true (codes "valid") valid no_members less (at_end true)))

place_line : (result file : List ℕ) (line column offset : ℕ) (code : List ℕ) → Fits line → Fits column → Fits offset → IsOneLine (json_line (place_value result file line column offset code))
place_line result file line column offset code l c o =
    line_of result _ (with_text true (codes "file") file _ (with_number true (codes "line") line _ l (with_number true (codes "column") column _ c (with_number true (codes "offset") offset _ o
    (with_text true (codes "code") code no_members (at_end true))))))

pub refusal_line : (file : List ℕ) (line column offset : ℕ) (code : List ℕ) → Fits line → Fits column → Fits offset → IsOneLine (json_line (refusal_value file line column offset code))
refusal_line = place_line (codes "refused")

pub finding_line : (file : List ℕ) (line column offset : ℕ) (code : List ℕ) → Fits line → Fits column → Fits offset → IsOneLine (json_line (finding_value file line column offset code))
finding_line = place_line (codes "finding")

pub linted_line : (findings : ℕ) → Fits findings → IsOneLine (json_line (linted_value findings))
linted_line findings fits = line_of (codes "linted") _ (with_number true (codes "findings") findings no_members fits (at_end true))

pub document_line : (name : List ℕ) (line : Option ℕ) (v : DocumentVerdict) → LineFits line → VerdictFits v → IsOneLine (json_line (document_value name line v))
document_line name line v l fits =
    line_of (codes "document") _ (with_text true (codes "document") (shown_name name) _ (with_line line _ l (with_text true (codes "verdict") (verdict_name v) _ (with_faults v fits))))

pub fault_line : (name : List ℕ) (line : Option ℕ) (f : Flaw) → LineFits line → Fits f.number → IsOneLine (json_line (fault_value name line f))
fault_line name line f l fits =
    line_of (codes "fault") _ (with_text true (codes "document") (shown_name name) _ (with_line line _ l (with_text true (codes "kind") (kind_name f.kind) _ (with_text true (codes "path") (path_text f.path) _
    (with_text true (codes "pointer") (pointer_text f.kind f.path) _ (unique_if (f.number == 0) f.number fits))))))
