-- The pieces of an object's text.
use Rattle.std.proofs.Common.{◌≡◌, ◌∙◌, ℕ, ◌==◌, Bool, true, false, cond, List, [], ◌++◌, codes, decimal, refl, ap, sym, subst, append_assoc}
use Rattle.std.specs.Str.{IsUtf8, is_utf8}
use Rattle.std.specs.declared.option.Option.{Option}
use Rattle.std.specs.declared.option.Option.TheVariants.{None, Some}
use Rattle.json.specs.Print.{quoted}
use Rattle.std.proofs.lemmas.Bool.{cond-true, cond-false}
use Rattle.std.proofs.lemmas.Str.{IsUtf8-from_is_utf8, is_utf8-from_IsUtf8}
use Rattle.serde_json.specs.Data.{Members, no_members}
use Rattle.serde_json.specs.Written.{compact_text, members_text}
use Rattle.serde_json.proofs.OnLiterals.{serde_json_on_literals}
use Rattle.yv_base_streams.specs.Pages.{Adds, IsPaged, Output}
use Rattle.yv_schema_tables.specs.declared.measures.Measures.{Measures}
use Rattle.yv_data_faults.specs.Flaw.{Flaw}
use Rattle.yv_data_faults.specs.Line.{escape, kind_name, path_text}
use Rattle.yv_json_lines.specs.InnerPieces.{cost_piece, faults_piece, flaw_piece, line_piece, measures_piece, place_piece, position_piece, unique_piece}
use Rattle.yv_json_lines.specs.Pointer.{pointer_text}
use Rattle.yv_json_lines.specs.Values.{cost_members, count_value, document_value, fault_value, faults_members, finding_value, line_member, linted_value, measures_members, number_member, refusal_value, run_value, shown_name, text_member, unique_member, verdict_name}
use Rattle.yv_json_lines.specs.declared.document.DocumentVerdict.{DocumentVerdict}
use Rattle.yv_json_lines.specs.declared.document.DocumentVerdict.TheVariants as verdict
use Rattle.yv_json_lines.specs.declared.document.ValidationCost.{ValidationCost}

-- ---- what is put on a page

pub adds_as : (a b : List ℕ) (old new : Output) → a ≡ b → Adds a old new → Adds b old new
adds_as a b old new e h = subst (λ (l : List ℕ). Adds l old new) e h

pub adds_both : (a b : List ℕ) (old mid new : Output) → Adds a old mid → Adds b mid new → Adds (a ++ b) old new
adds_both a b old mid new first second =
    λ start text h. subst (λ (l : List ℕ). IsPaged start l new) (append_assoc text a b) (second start (text ++ a) (first start text h))

-- ---- objects

pub run_pieces : (documents valid : ℕ) → (codes "{\"result\":\"run\",\"documents\":" ++ decimal documents) ++ ((codes ",\"valid\":" ++ decimal valid) ++ codes "}") ≡ compact_text (run_value documents valid)
unfolding serde_json_on_literals
run_pieces documents valid = refl

pub linted_pieces : (findings : ℕ) → (codes "{\"result\":\"linted\",\"findings\":" ++ decimal findings) ++ codes "}" ≡ compact_text (linted_value findings)
unfolding serde_json_on_literals
linted_pieces findings = refl

-- three texts and one more
three : (a b c x : List ℕ) → (a ++ (b ++ c)) ++ x ≡ a ++ (b ++ (c ++ x))
three a b c x = append_assoc a (b ++ c) x ∙ ap (λ (l : List ℕ). a ++ l) (append_assoc b c x)

-- six texts and one more
assoc : (a b c d e f x : List ℕ) → (a ++ (b ++ (c ++ (d ++ (e ++ f))))) ++ x ≡ a ++ (b ++ (c ++ (d ++ (e ++ (f ++ x)))))
assoc a b c d e f x =
    append_assoc a (b ++ (c ++ (d ++ (e ++ f)))) x
    ∙ ap (λ (l : List ℕ). a ++ l) (append_assoc b (c ++ (d ++ (e ++ f))) x
    ∙ ap (λ (l : List ℕ). b ++ l) (append_assoc c (d ++ (e ++ f)) x
    ∙ ap (λ (l : List ℕ). c ++ l) (append_assoc d (e ++ f) x
    ∙ ap (λ (l : List ℕ). d ++ l) (append_assoc e f x))))

-- ---- members, before others

position_step : (line column offset : ℕ) (others : Members) → position_piece line column offset ++ members_text true others
    ≡ members_text true (number_member (codes "line") line (number_member (codes "column") column (number_member (codes "offset") offset others)))
unfolding serde_json_on_literals
position_step line column offset others =
    three (codes ",\"line\":" ++ decimal line) (codes ",\"column\":" ++ decimal column) (codes ",\"offset\":" ++ decimal offset) (members_text true others)

flaw_step : (f : Flaw) (others : Members) → flaw_piece f ++ members_text true others
    ≡ members_text true (text_member (codes "kind") (kind_name f.kind) (text_member (codes "path") (path_text f.path) (text_member (codes "pointer") (pointer_text f.kind f.path) others)))
unfolding serde_json_on_literals
flaw_step f others =
    assoc (codes ",\"kind\":") (quoted (kind_name f.kind)) (codes ",\"path\":") (quoted (path_text f.path)) (codes ",\"pointer\":") (quoted (pointer_text f.kind f.path)) (members_text true others)

line_step : (line : Option ℕ) (others : Members) → line_piece line ++ members_text true others ≡ members_text true (line_member line others)
unfolding serde_json_on_literals
line_step None others = refl
line_step (Some n) others = refl

measures_step : (measures : Option Measures) → measures_piece measures ++ codes "}" ≡ members_text true (measures_members measures)
unfolding serde_json_on_literals
measures_step None = refl
measures_step (Some s) = three (codes ",\"m\":" ++ decimal s.m) (codes ",\"u\":" ++ decimal s.u) (codes ",\"w\":" ++ decimal s.w) (codes "}")

cost_step : (cost : Option ValidationCost) → cost_piece cost ++ codes "}" ≡ members_text true (cost_members cost)
unfolding serde_json_on_literals
cost_step None = refl
cost_step (Some c) = three (codes ",\"n\":" ++ decimal c.size) (codes ",\"steps\":" ++ decimal c.steps) (codes ",\"bound\":" ++ decimal c.bound) (codes "}")

faults_step : (v : DocumentVerdict) → faults_piece v ++ codes "}" ≡ members_text true (faults_members v)
unfolding serde_json_on_literals
faults_step (verdict.Validated faults cost) =
    append_assoc (codes ",\"faults\":" ++ decimal faults) (cost_piece cost) (codes "}") ∙ ap (λ (l : List ℕ). (codes ",\"faults\":" ++ decimal faults) ++ l) (cost_step cost)
faults_step verdict.TooLarge = refl
faults_step verdict.NotJson = refl
faults_step verdict.CannotRead = refl
faults_step verdict.OutOfMemory = refl

unique_if : (is_none : Bool) (n : ℕ) → cond is_none [] (codes ",\"unique\":" ++ decimal n) ++ codes "}" ≡ members_text true (cond is_none no_members (number_member (codes "unique") n no_members))
unfolding serde_json_on_literals
unique_if true n = refl
unique_if false n = refl

-- a document's name and line, before others
doc_step : (name : List ℕ) (line : Option ℕ) (others : Members) → (quoted (shown_name name) ++ line_piece line) ++ members_text true others
    ≡ quoted (shown_name name) ++ members_text true (line_member line others)
doc_step name line others =
    append_assoc (quoted (shown_name name)) (line_piece line) (members_text true others) ∙ ap (λ (l : List ℕ). quoted (shown_name name) ++ l) (line_step line others)

-- ---- whole objects

pub count_pieces : (nodes : ℕ) (measures : Option Measures) → (codes "{\"result\":\"compiled\",\"nodes\":" ++ decimal nodes) ++ (measures_piece measures ++ codes "}") ≡ compact_text (count_value nodes measures)
unfolding serde_json_on_literals
count_pieces nodes measures = ap (λ (l : List ℕ). (codes "{\"result\":\"compiled\",\"nodes\":" ++ decimal nodes) ++ l) (measures_step measures)

place_step : (file : List ℕ) (line column offset : ℕ) (code : List ℕ) → place_piece file line column offset code
    ≡ quoted file ++ members_text true (number_member (codes "line") line (number_member (codes "column") column (number_member (codes "offset") offset (text_member (codes "code") code no_members))))
unfolding serde_json_on_literals
place_step file line column offset code = ap (λ (l : List ℕ). quoted file ++ l) (position_step line column offset (text_member (codes "code") code no_members))

pub refusal_pieces : (file : List ℕ) (line column offset : ℕ) (code : List ℕ) → codes "{\"result\":\"refused\",\"file\":" ++ place_piece file line column offset code ≡ compact_text (refusal_value file line column offset code)
unfolding serde_json_on_literals
refusal_pieces file line column offset code = ap (λ (l : List ℕ). codes "{\"result\":\"refused\",\"file\":" ++ l) (place_step file line column offset code)

pub finding_pieces : (file : List ℕ) (line column offset : ℕ) (code : List ℕ) → codes "{\"result\":\"finding\",\"file\":" ++ place_piece file line column offset code ≡ compact_text (finding_value file line column offset code)
unfolding serde_json_on_literals
finding_pieces file line column offset code = ap (λ (l : List ℕ). codes "{\"result\":\"finding\",\"file\":" ++ l) (place_step file line column offset code)

pub document_pieces : (name : List ℕ) (line : Option ℕ) (v : DocumentVerdict) → codes "{\"result\":\"document\",\"document\":" ++ ((quoted (shown_name name) ++ line_piece line) ++ (codes ",\"verdict\":" ++ (quoted (verdict_name v) ++ (faults_piece v ++ codes "}"))))
    ≡ compact_text (document_value name line v)
unfolding serde_json_on_literals
document_pieces name line v =
    ap (λ (l : List ℕ). codes "{\"result\":\"document\",\"document\":" ++ ((quoted (shown_name name) ++ line_piece line) ++ (codes ",\"verdict\":" ++ (quoted (verdict_name v) ++ l)))) (faults_step v)
    ∙ ap (λ (l : List ℕ). codes "{\"result\":\"document\",\"document\":" ++ l) (doc_step name line (text_member (codes "verdict") (verdict_name v) (faults_members v)))

pub fault_pieces : (name : List ℕ) (line : Option ℕ) (f : Flaw) → codes "{\"result\":\"fault\",\"document\":" ++ ((quoted (shown_name name) ++ line_piece line) ++ (flaw_piece f ++ (unique_piece f.number ++ codes "}")))
    ≡ compact_text (fault_value name line f)
unfolding serde_json_on_literals
fault_pieces name line f =
    ap (λ (l : List ℕ). codes "{\"result\":\"fault\",\"document\":" ++ ((quoted (shown_name name) ++ line_piece line) ++ (flaw_piece f ++ l))) (unique_if (f.number == 0) f.number)
    ∙ ap (λ (l : List ℕ). codes "{\"result\":\"fault\",\"document\":" ++ ((quoted (shown_name name) ++ line_piece line) ++ l)) (flaw_step f (unique_member f.number no_members))
    ∙ ap (λ (l : List ℕ). codes "{\"result\":\"fault\",\"document\":" ++ l)
    (doc_step name line (text_member (codes "kind") (kind_name f.kind) (text_member (codes "path") (path_text f.path) (text_member (codes "pointer") (pointer_text f.kind f.path) (unique_member f.number no_members)))))

-- ---- names of documents

is_not_utf8 : (name : List ℕ) (is : Bool) → is_utf8 name ≡ is → (IsUtf8 name → ⊥) → is ≡ false
is_not_utf8 name true e h = absurd (h (IsUtf8-from_is_utf8 name e))
is_not_utf8 name false e h = refl

pub shown_text : (name : List ℕ) → IsUtf8 name → name ≡ shown_name name
shown_text name h = sym (cond-true _ _ _ (is_utf8-from_IsUtf8 name h))

pub shown_label : (name : List ℕ) → (IsUtf8 name → ⊥) → escape name ≡ shown_name name
shown_label name h = sym (cond-false _ _ _ (is_not_utf8 name (is_utf8 name) refl h))
