-- Lines are read back.
use Rattle.std.proofs.Common.{◌≡◌, ◌∙◌, ◌≤◌, ◌==◌, ℕ, List, [], Bool, true, false, cond, Ordering, Less, Equal, Greater, nat_cmp, is_eq, ◌&&◌, refl, codes, sym, ap, append-nil, arith}
use Rattle.std.specs.Prelude.{⊤, Option, Some, None, is_none, option_and_then, option_map}
use Rattle.std.specs.Cmp.Lexicographic.{slice_cmp}
use Rattle.std.specs.Ordering.{match_ordering}
use Rattle.std.proofs.lemmas.Bool.{and_parts}
use Rattle.std.proofs.lemmas.Cmp.{nat_list_cmp_total, tied_itself}
use Rattle.std.proofs.lemmas.Map.Text.{is_eq-slice_cmp}
use Rattle.std.proofs.lemmas.Slice.Eq.{bytes_eq-Decides}
use Rattle.json.specs.Json as json
use Rattle.json.specs.Lex.{tokens}
use Rattle.json.specs.Token.{Token}
use Rattle.json.specs.Tree as tree
use Rattle.json.proofs.Printed.Decimals.{IsNumber-decimal}
use Rattle.json.proofs.Printed.Tokens.{tokens-print}
use Rattle.json.proofs.Printed.Trees.{ArePrintable-json_tokens, value-json_tokens}
use Rattle.serde_json.specs.Data.{Data, Members, member, no_members, number, object, put, string, unsigned}
use Rattle.serde_json.specs.Find.{get_member}
use Rattle.serde_json.specs.Read.{max_depth, of_json, of_members, read}
use Rattle.serde_json.specs.Written.{compact_text, members_outline, outline}
use Rattle.serde_json.proofs.Numbers.{number_of-decimal}
use Rattle.serde_json.proofs.Texts.{print-outline}
use Rattle.serde_json.proofs.Views.{get_member-put, get_member-put_other}
use Rattle.yv_schema_tables.specs.declared.measures.Measures.{Measures}
use Rattle.yv_data_faults.specs.Flaw.{Flaw}
use Rattle.yv_data_faults.specs.Line.{kind_name, path_text}
use Rattle.yv_json_lines.specs.OneLine.{CostFits, Fits, LineFits, MeasuresFit, VerdictFits}
use Rattle.yv_json_lines.specs.Pointer.{pointer_text}
use Rattle.yv_json_lines.specs.ReadBack.{ReadsBack}
use Rattle.yv_json_lines.specs.Values.{cost_members, count_value, document_value, fault_value, faults_members, finding_value, line_member, linted_value, number_member, place_value, refusal_value, result_value, run_value, shown_name, text_member, verdict_name}
use Rattle.yv_json_lines.specs.declared.document.DocumentVerdict.{DocumentVerdict}
use Rattle.yv_json_lines.specs.declared.document.DocumentVerdict.TheVariants as verdict
use Rattle.yv_json_lines.specs.declared.document.ValidationCost.{ValidationCost}

-- ---- values that are read back: texts, and numbers of 64 bits

abbrev IsBack : Data → Type 0
IsBack d = (of_json (outline d) ≡ Some d) × (tree.depth (outline d) ≤ 0) × tree.HasNumbers (outline d)

abbrev AreBack : Members → Type 0
AreBack no_members = ⊤
AreBack (member k d ms) = IsBack d × AreBack ms

text_back : (s : List ℕ) → IsBack (string s)
text_back s = (refl, omega arith, tt)

number_back : (n : ℕ) → Fits n → IsBack (number (unsigned n))
number_back n fits = (ap (option_map number) (number_of-decimal n fits), omega arith, IsNumber-decimal n fits)

-- ---- an object of such values

-- members, put into others one after another
abbrev put_all : Members → Members → Members
put_all no_members found = found
put_all (member k d ms) found = put_all ms (put k d found)

all_back : (ms found : Members) → AreBack ms → of_members (members_outline ms) found ≡ Some (put_all ms found)
all_back no_members found h = refl
all_back (member k d ms) found h =
    ap (option_and_then (λ (e : Data). of_members (members_outline ms) (put k e found))) h.0.0 ∙ all_back ms (put k d found) h.1

all_flat : (ms : Members) → AreBack ms → tree.members_depth (members_outline ms) ≤ 0
all_flat no_members h = omega arith
all_flat (member k d ms) h = omega (arith, h.0.1, all_flat ms h.1)

all_numbers : (ms : Members) → AreBack ms → tree.MembersHaveNumbers (members_outline ms)
all_numbers no_members h = tt
all_numbers (member k d ms) h = (h.0.2, all_numbers ms h.1)

abbrev whole : Option (json.Json × List Token) → Option Data
whole o = option_and_then of_json (option_and_then (λ p. json.if_last p.0 p.1) o)

object_back : (ms : Members) → AreBack ms → read (compact_text (object ms)) ≡ Some (object (put_all ms no_members))
object_back ms h =
    let j = outline (object ms) in
    let same : tokens (compact_text (object ms)) ≡ tree.json_tokens j = ap tokens (sym (print-outline (object ms))) ∙ tokens-print (tree.json_tokens j) (ArePrintable-json_tokens j (all_numbers ms h)) in
    ap whole (ap (json.value max_depth) (same ∙ sym (append-nil (tree.json_tokens j))) ∙ value-json_tokens j max_depth [] (omega (arith, all_flat ms h)))
    ∙ ap (option_map object) (all_back ms no_members h)

-- ---- what is found in it

-- no name comes twice
abbrev are_apart : Members → Bool
are_apart no_members = true
are_apart (member k d ms) = is_none (get_member k ms) && are_apart ms

none_of : (o : Option Data) → is_none o ≡ true → o ≡ None
none_of None e = refl
none_of (Some d) e = cc

abbrev or_else : Option Data → Option Data → Option Data
or_else None other = other
or_else (Some d) other = Some d

or_none : (o : Option Data) → or_else o None ≡ o
or_none None = refl
or_none (Some d) = refl

tied : (q : List ℕ) → slice_cmp nat_cmp q q ≡ Equal
tied q = tied_itself nat_list_cmp_total q

same_name : (q k : List ℕ) → slice_cmp nat_cmp q k ≡ Equal → q ≡ k
same_name q k e = (bytes_eq-Decides q k).0 (sym (is_eq-slice_cmp q k) ∙ ap is_eq e)

other_name : (q k : List ℕ) (o : Ordering) → slice_cmp nat_cmp q k ≡ o → is_eq o ≡ false → q ≡ k → ⊥
other_name q k o e differs same =
    let tie : slice_cmp nat_cmp q k ≡ Equal = ap (slice_cmp nat_cmp q) (sym same) ∙ tied q in
    let never : true ≡ false = ap is_eq (sym tie ∙ e) ∙ differs in
    cc

found_by : (q k : List ℕ) (d : Data) (ms found : Members) (o : Ordering) → slice_cmp nat_cmp q k ≡ o → get_member k ms ≡ None
    → or_else (get_member q ms) (get_member q (put k d found)) ≡ or_else (match_ordering o (get_member q ms) (Some d) (get_member q ms)) (get_member q found)
found_by q k d ms found Less e once = ap (or_else (get_member q ms)) (get_member-put_other q k d found (other_name q k Less e refl))
found_by q k d ms found Greater e once = ap (or_else (get_member q ms)) (get_member-put_other q k d found (other_name q k Greater e refl))
found_by q k d ms found Equal e once =
    let same = same_name q k e in
    ap (λ (o : Option Data). or_else o (get_member q (put k d found))) (ap (λ (l : List ℕ). get_member l ms) same ∙ once)
    ∙ ap (λ (l : List ℕ). get_member l (put k d found)) same ∙ get_member-put k d found

found_all : (q : List ℕ) (ms found : Members) → are_apart ms ≡ true → get_member q (put_all ms found) ≡ or_else (get_member q ms) (get_member q found)
found_all q no_members found h = refl
found_all q (member k d ms) found h =
    let parts = and_parts (is_none (get_member k ms)) (are_apart ms) h in
    found_all q ms (put k d found) parts.1 ∙ found_by q k d ms found _ refl (none_of (get_member k ms) parts.0)

line_back : (result : List ℕ) (ms : Members) → AreBack ms → are_apart (text_member (codes "result") result ms) ≡ true → ReadsBack (result_value result ms)
line_back result ms h apart =
    let all = text_member (codes "result") result ms in
    record {
      text = compact_text (object all);
      ends = refl;
      members = put_all all no_members;
      is_read = object_back all (text_back result, h);
      has = λ q. found_all q all no_members apart ∙ or_none (get_member q all);
    }

-- ---- lines

pub count_back : (nodes : ℕ) (measures : Option Measures) → Fits nodes → MeasuresFit measures → ReadsBack (count_value nodes measures)
count_back nodes None fits fit = line_back (codes "compiled") _ (number_back nodes fits, tt) refl
count_back nodes (Some s) fits fit =
    line_back (codes "compiled") _ (number_back nodes fits, (number_back s.m fit.0, (number_back s.u fit.1, (number_back s.w fit.2, tt)))) refl

pub run_back : (documents valid : ℕ) → Fits documents → Fits valid → ReadsBack (run_value documents valid)
run_back documents valid fits less = line_back (codes "run") _ (number_back documents fits, (number_back valid less, tt)) refl

place_back : (result file : List ℕ) (line column offset : ℕ) (code : List ℕ) → Fits line → Fits column → Fits offset → ReadsBack (place_value result file line column offset code)
place_back result file line column offset code l c o =
    line_back result _ (text_back file, (number_back line l, (number_back column c, (number_back offset o, (text_back code, tt))))) refl

pub refusal_back : (file : List ℕ) (line column offset : ℕ) (code : List ℕ) → Fits line → Fits column → Fits offset → ReadsBack (refusal_value file line column offset code)
refusal_back = place_back (codes "refused")

pub finding_back : (file : List ℕ) (line column offset : ℕ) (code : List ℕ) → Fits line → Fits column → Fits offset → ReadsBack (finding_value file line column offset code)
finding_back = place_back (codes "finding")

pub linted_back : (findings : ℕ) → Fits findings → ReadsBack (linted_value findings)
linted_back findings fits = line_back (codes "linted") _ (number_back findings fits, tt) refl

line_member_back : (line : Option ℕ) (ms : Members) → LineFits line → AreBack ms → AreBack (line_member line ms)
line_member_back None ms fits h = h
line_member_back (Some n) ms fits h = (number_back n fits, h)

cost_back : (cost : Option ValidationCost) → CostFits cost → AreBack (cost_members cost)
cost_back None fits = tt
cost_back (Some c) fits = (number_back c.size fits.0, (number_back c.steps fits.1, (number_back c.bound fits.2, tt)))

faults_back : (v : DocumentVerdict) → VerdictFits v → AreBack (faults_members v)
faults_back (verdict.Validated faults cost) fits = (number_back faults fits.0, cost_back cost fits.1)
faults_back verdict.TooLarge fits = tt
faults_back verdict.NotJson fits = tt
faults_back verdict.CannotRead fits = tt
faults_back verdict.OutOfMemory fits = tt

-- the members of a document's line behind the result
abbrev document_members : List ℕ → Option ℕ → DocumentVerdict → Members
document_members name line v = text_member (codes "document") (shown_name name) (line_member line (text_member (codes "verdict") (verdict_name v) (faults_members v)))

document_apart : (name : List ℕ) (line : Option ℕ) (v : DocumentVerdict) → are_apart (text_member (codes "result") (codes "document") (document_members name line v)) ≡ true
document_apart name None (verdict.Validated faults None) = refl
document_apart name None (verdict.Validated faults (Some c)) = refl
document_apart name None verdict.TooLarge = refl
document_apart name None verdict.NotJson = refl
document_apart name None verdict.CannotRead = refl
document_apart name None verdict.OutOfMemory = refl
document_apart name (Some n) (verdict.Validated faults None) = refl
document_apart name (Some n) (verdict.Validated faults (Some c)) = refl
document_apart name (Some n) verdict.TooLarge = refl
document_apart name (Some n) verdict.NotJson = refl
document_apart name (Some n) verdict.CannotRead = refl
document_apart name (Some n) verdict.OutOfMemory = refl

pub document_back : (name : List ℕ) (line : Option ℕ) (v : DocumentVerdict) → LineFits line → VerdictFits v → ReadsBack (document_value name line v)
document_back name line v l fits =
    line_back (codes "document") (document_members name line v) (text_back (shown_name name), line_member_back line _ l (text_back (verdict_name v), faults_back v fits)) (document_apart name line v)

-- the last members of a fault's line
abbrev flaw_members : (kind path pointer : List ℕ) (n : ℕ) (is_zero : Bool) → Members
flaw_members kind path pointer n is_zero =
    text_member (codes "kind") kind (text_member (codes "path") path (text_member (codes "pointer") pointer (cond is_zero no_members (number_member (codes "unique") n no_members))))

fault_by : (name : List ℕ) (line : Option ℕ) (kind path pointer : List ℕ) (n : ℕ) (is_zero : Bool) → LineFits line → Fits n
    → ReadsBack (result_value (codes "fault") (text_member (codes "document") (shown_name name) (line_member line (flaw_members kind path pointer n is_zero))))
fault_by name None kind path pointer n true fit fits = line_back (codes "fault") _ (text_back _, (text_back kind, (text_back path, (text_back pointer, tt)))) refl
fault_by name None kind path pointer n false fit fits =
    line_back (codes "fault") _ (text_back _, (text_back kind, (text_back path, (text_back pointer, (number_back n fits, tt))))) refl
fault_by name (Some l) kind path pointer n true fit fits =
    line_back (codes "fault") _ (text_back _, (number_back l fit, (text_back kind, (text_back path, (text_back pointer, tt))))) refl
fault_by name (Some l) kind path pointer n false fit fits =
    line_back (codes "fault") _ (text_back _, (number_back l fit, (text_back kind, (text_back path, (text_back pointer, (number_back n fits, tt)))))) refl

pub fault_back : (name : List ℕ) (line : Option ℕ) (f : Flaw) → LineFits line → Fits f.number → ReadsBack (fault_value name line f)
fault_back name line f l fits = fault_by name line (kind_name f.kind) (path_text f.path) (pointer_text f.kind f.path) f.number (f.number == 0) l fits
