-- What is said of a document is what its definition says.
use Rattle.std.proofs.Common.{◌≡◌, ◌∙◌, ◌==◌, ℕ, List, [], ◌∷◌, ◌++◌, Bool, false, arith, codes, ap, refl, sym, subst, map, flat_map, length, append_assoc, append-nil}
use Rattle.std.specs.declared.option.Option.{Option}
use Rattle.std.specs.declared.option.Option.TheVariants.{None, Some}
use Rattle.std.proofs.lemmas.Bool.{cond-false}
use Rattle.std.proofs.lemmas.Bool.Decides.{nat_tests}
use Rattle.yv_base_streams.specs.Pages.{Adds, IsPaged, Output}
use Rattle.yv_nodes.specs.Rows.{Rows}
use Rattle.yv_text_statement.specs.declared.document_kind.Kind.{Kind}
use Rattle.yv_data_faults.specs.Flaw.{Flaw}
use Rattle.yv_data_faults.specs.Line.{line_text}
use Rattle.yv_validate.specs.Faults.{faults}
use Rattle.yv_job.specs.declared.job.OutputForm.{OutputForm}
use Rattle.yv_job.specs.declared.job.OutputForm.TheVariants as form
use Rattle.yv_batch.specs.AskedDocument.{AskedDocument, ReadResult, Read, Unread, NoRoom}
use Rattle.yv_batch.specs.Label.{label_line, label_text}
use Rattle.yv_json_lines.specs.declared.document.DocumentVerdict.{DocumentVerdict}
use Rattle.yv_json_lines.specs.declared.document.ValidationCost.{ValidationCost}
use Rattle.yv_documents.specs.AskedText.{form_text}
use Rattle.yv_documents.specs.Document.{DocumentText, TooLarge, NotJson, Reads, document_text}
use Rattle.yv_documents.specs.DocumentLines.{cost_lines, count_line, faults_in, faults_level, faults_lines, fetched_level, fetched_lines, reading_level, reading_lines}
use Rattle.yv_documents.specs.DocumentResults.{fetched_faults, fetched_verdict, reading_verdict}
use Rattle.yv_documents.specs.InnerReply.{cost_in, cost_text, number_level, number_line, reply_lines, reply_text, verdict_level, verdict_line}
use Rattle.yv_documents.specs.Steps.{cost_if, steps_line}

-- ---- the lines of text

not_none : (f : Flaw) (fs : List Flaw) → (length (f ∷ fs) == 0) ≡ false
not_none f fs = grind (arith, nat_tests)

lines_counted : (cost : Option ValidationCost) (fs : List Flaw) → map line_text fs ++ number_line (length fs) ∷ cost_lines cost ≡ faults_lines cost fs
lines_counted cost [] = refl
lines_counted cost (f ∷ fs) =
    ap (λ (l : List ℕ). map line_text (f ∷ fs) ++ l ∷ cost_lines cost) (cond-false (length (f ∷ fs) == 0) (codes "valid") (count_line (f ∷ fs)) (not_none f fs))

lines_said : (measures : Bool) (k : Kind) (s : Rows) (t : DocumentText) → reply_lines (faults_in k s t) (reading_verdict measures k s t) ≡ reading_lines measures k s t
lines_said measures k s TooLarge = refl
lines_said measures k s NotJson = refl
lines_said measures k s (Reads d) = lines_counted (cost_if measures k s d) (faults k s d)

lines_fetched : (measures : Bool) (k : Kind) (s : Rows) (got : ReadResult) → reply_lines (fetched_faults k s got) (fetched_verdict measures k s got) ≡ fetched_lines measures k s got
lines_fetched measures k s (Read given) = lines_said measures k s (document_text given)
lines_fetched measures k s Unread = refl
lines_fetched measures k s NoRoom = refl

-- ---- in either form

form_said : (f : OutputForm) (measures : Bool) (k : Kind) (s : Rows) (a : AskedDocument) → reply_text f a.name a.line (fetched_faults k s a.fetched) (fetched_verdict measures k s a.fetched) ≡ form_text f measures k s a
form_said form.Text measures k s a = ap (flat_map (label_line (label_text a))) (lines_fetched measures k s a.fetched)
form_said form.Json measures k s a = refl

-- what is written of a document by its faults and verdict is what is asked for
pub text_said : (f : OutputForm) (measures : Bool) (k : Kind) (s : Rows) (a : AskedDocument) (flaws : List Flaw) (v : DocumentVerdict) → flaws ≡ fetched_faults k s a.fetched → v ≡ fetched_verdict measures k s a.fetched
    → reply_text f a.name a.line flaws v ≡ form_text f measures k s a
text_said f measures k s a flaws v faulty judged =
    ap (λ (l : List Flaw). reply_text f a.name a.line l v) faulty ∙ ap (reply_text f a.name a.line (fetched_faults k s a.fetched)) judged ∙ form_said f measures k s a

-- ---- how good it is

level_counted : (fs : List Flaw) → number_level (length fs) ≡ faults_level fs
level_counted [] = refl
level_counted (f ∷ fs) = cond-false (length (f ∷ fs) == 0) 0 1 (not_none f fs)

level_said : (measures : Bool) (k : Kind) (s : Rows) (t : DocumentText) → verdict_level (reading_verdict measures k s t) ≡ reading_level k s t
level_said measures k s TooLarge = refl
level_said measures k s NotJson = refl
level_said measures k s (Reads d) = level_counted (faults k s d)

level_fetched : (measures : Bool) (k : Kind) (s : Rows) (got : ReadResult) → verdict_level (fetched_verdict measures k s got) ≡ fetched_level k s got
level_fetched measures k s (Read given) = level_said measures k s (document_text given)
level_fetched measures k s Unread = refl
level_fetched measures k s NoRoom = refl

-- the level of a document by its verdict is its level
pub level_of_said : (measures : Bool) (k : Kind) (s : Rows) (got : ReadResult) (v : DocumentVerdict) (level : ℕ) → v ≡ fetched_verdict measures k s got → level ≡ verdict_level v → level ≡ fetched_level k s got
level_of_said measures k s got v level judged e = e ∙ ap verdict_level judged ∙ level_fetched measures k s got

-- ---- a document that was read

pub faults_read : (k : Kind) (s : Rows) (got : ReadResult) (given : List ℕ) (flaws : List Flaw) → got ≡ Read given → flaws ≡ faults_in k s (document_text given) → flaws ≡ fetched_faults k s got
faults_read k s got given flaws is e = e ∙ ap (fetched_faults k s) (sym is)

pub verdict_read : (measures : Bool) (k : Kind) (s : Rows) (got : ReadResult) (given : List ℕ) (v : DocumentVerdict) → got ≡ Read given → v ≡ reading_verdict measures k s (document_text given) → v ≡ fetched_verdict measures k s got
verdict_read measures k s got given v is e = e ∙ ap (fetched_verdict measures k s) (sym is)

-- ---- what is put on a page

pub adds_as : (a b : List ℕ) (old new : Output) → a ≡ b → Adds a old new → Adds b old new
adds_as a b old new e h = subst (λ (l : List ℕ). Adds l old new) e h

pub adds_both : (a b : List ℕ) (old mid new : Output) → Adds a old mid → Adds b mid new → Adds (a ++ b) old new
adds_both a b old mid new first second =
    λ start text h. subst (λ (l : List ℕ). IsPaged start l new) (append_assoc text a b) (second start (text ++ a) (first start text h))

-- the lines of faults, one more, and others
more_lines : (ended : List ℕ → List ℕ) (fs : List Flaw) (last : List ℕ) (others : List (List ℕ)) → flat_map ended (map line_text fs ++ last ∷ others) ≡ flat_map (λ (f : Flaw). ended (line_text f)) fs ++ (ended last ++ flat_map ended others)
more_lines ended [] last others = refl
more_lines ended (f ∷ fs) last others =
    ap (λ (l : List ℕ). ended (line_text f) ++ l) (more_lines ended fs last others)
    ∙ sym (append_assoc (ended (line_text f)) (flat_map (λ (g : Flaw). ended (line_text g)) fs) (ended last ++ flat_map ended others))

cost_added : (label : List ℕ) (cost : Option ValidationCost) → cost_text label cost ≡ flat_map (label_line label) (cost_lines cost)
cost_added label None = refl
cost_added label (Some cost) = sym (append-nil (label_line label (steps_line cost)))

-- the lines of faults, of a verdict and of its cost
pub reply_added : (label : List ℕ) (fs : List Flaw) (v : DocumentVerdict) (cost : Option ValidationCost) → cost ≡ cost_in v
    → flat_map (λ (f : Flaw). label_line label (line_text f)) fs ++ (label_line label (verdict_line v) ++ cost_text label cost) ≡ flat_map (label_line label) (reply_lines fs v)
reply_added label fs v cost e =
    ap (λ (l : List ℕ). flat_map (λ (f : Flaw). label_line label (line_text f)) fs ++ (label_line label (verdict_line v) ++ l)) (ap (cost_text label) e ∙ cost_added label (cost_in v))
    ∙ sym (more_lines (label_line label) fs (verdict_line v) (cost_lines (cost_in v)))
