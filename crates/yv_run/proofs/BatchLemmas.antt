-- What a run over many documents leaves, from what its parts answer.
use Rattle.std.proofs.Common.{◌≡◌, ◌∙◌, ◌⊎◌, ◌↔◌, inl, inr, ℕ, List, [], ◌∷◌, ◌++◌, Bool, true, map, flat_map, codes, refl, sym, ap, subst, append_assoc, append-nil}
use Rattle.std.specs.declared.option.Option.{Option}
use Rattle.std.specs.declared.option.Option.TheVariants.{None, Some}
use Rattle.yv_text_statement.specs.declared.document_kind.Kind.{Kind}
use Rattle.yv_nodes.specs.Rows.{Rows}
use Rattle.yv_base_streams.specs.Files.{File}
use Rattle.yv_job.specs.Jobs.{Task}
use Rattle.yv_data_faults.specs.Flaw.{Flaw}
use Rattle.yv_data_faults.specs.Line.{line_text}
use Rattle.yv_validate.specs.Faults.{faults}
use Rattle.yv_batch.specs.Answers.{Answers}
use Rattle.yv_batch.specs.AskedDocument.{AskedDocument}
use Rattle.yv_batch.specs.declared.batch.BatchEnd.{BatchEnd}
use Rattle.yv_batch.specs.declared.batch.BatchEnd.TheVariants as batch
use Rattle.yv_batch.specs.declared.batch.Tally.{Tally}
use Rattle.yv_batch.specs.declared.level.Level.{Level}
use Rattle.yv_batch.specs.declared.level.Level.TheVariants as level
use Rattle.yv_documents.specs.VerdictText.{with_end}
use Rattle.yv_documents.specs.Document.{DocumentText, TooLarge, NotJson, Reads, document_text}
use Rattle.yv_json_lines.specs.declared.document.ValidationCost.{ValidationCost}
use Rattle.yv_job.specs.declared.job.OutputOptions.{OutputOptions}
use Rattle.yv_documents.specs.AskedText.{asked_text, asked_total}
use Rattle.yv_documents.specs.DocumentLines.{asked_level, cost_lines, count_line, data_lines, faults_lines, reading_lines}
use Rattle.yv_documents.specs.Lines.{ended_line}
use Rattle.yv_documents.specs.Steps.{cost_if, steps_line}
use Rattle.yv_run.specs.Batches.{IsAll, IsFound, RunsAll, StopsBefore, answered, refused}
use Rattle.yv_run.specs.Compiles.{AreRefused}
use Rattle.yv_run.specs.Output.{IsStopped, cost_end, data_printed, faults_printed, reading_printed}
use Rattle.yv_run.specs.Status.{batch_status, level_status}
use Rattle.yv_run.specs.declared.status.Status.{Status}
use Rattle.yv_run.specs.declared.status.Status.TheVariants as ended
use Rattle.yv_run.specs.declared.whole_run.RunEnd.{RunEnd}

-- ---- the law on labels

-- lines and others, each with its line feed
ended_more : (fs : List Flaw) (others : List (List ℕ)) → flat_map ended_line (map line_text fs ++ others) ≡ flat_map (λ (f : Flaw). ended_line (line_text f)) fs ++ flat_map ended_line others
ended_more [] others = refl
ended_more (f ∷ fs) others =
    ap (λ (l : List ℕ). ended_line (line_text f) ++ l) (ended_more fs others)
    ∙ sym (append_assoc (ended_line (line_text f)) (flat_map (λ (g : Flaw). ended_line (line_text g)) fs) (flat_map ended_line others))

-- one line, and the one of the cost
cost_after : (line : List ℕ) (cost : Option ValidationCost) → flat_map ended_line (line ∷ cost_lines cost) ≡ with_end (ended_line line) (cost_end cost)
cost_after line None = append-nil (ended_line line)
cost_after line (Some cost) = ap (λ (l : List ℕ). ended_line line ++ l) (append-nil (ended_line (steps_line cost)))

-- what comes after two texts comes after the second
end_after : (a b : List ℕ) (end : Option (List ℕ)) → a ++ with_end b end ≡ with_end (a ++ b) end
end_after a b None = refl
end_after a b (Some end) = sym (append_assoc a b end)

faults_are_printed : (cost : Option ValidationCost) (fs : List Flaw) → flat_map ended_line (faults_lines cost fs) ≡ (faults_printed cost fs).text
faults_are_printed cost [] = cost_after (codes "valid") cost
faults_are_printed cost (f ∷ fs) =
    let lines = flat_map (λ (g : Flaw). ended_line (line_text g)) (f ∷ fs) in
    let count = count_line (f ∷ fs) in
    ended_more (f ∷ fs) (count ∷ cost_lines cost)
    ∙ ap (λ (l : List ℕ). lines ++ l) (cost_after count cost)
    ∙ end_after lines (ended_line count) (cost_end cost)

reading_is_printed : (measures : Bool) (k : Kind) (s : Rows) (t : DocumentText) → flat_map ended_line (reading_lines measures k s t) ≡ (reading_printed measures k s t).text
reading_is_printed measures k s TooLarge = refl
reading_is_printed measures k s NotJson = refl
reading_is_printed measures k s (Reads d) = faults_are_printed (cost_if measures k s d) (faults k s d)

pub lines_are_printed : (measures : Bool) (k : Kind) (s : Rows) (given : List ℕ) → flat_map ended_line (data_lines measures k s given) ≡ (data_printed measures k s given).text
lines_are_printed measures k s given = reading_is_printed measures k s (document_text given)

-- ---- how a run ends

-- a run that nothing stopped wasn't stopped before the first document
pub not_before : (status : Status) → (IsStopped status → ⊥) → StopsBefore status → ⊥
not_before ended.Clean h stops = stops
not_before ended.Refused h stops = stops
not_before ended.BadInput h stops = stops
not_before ended.NoMemory h stops = h tt
not_before ended.PatternBuild h stops = h tt
not_before ended.ReadFault h stops = stops
not_before ended.WriteFault h stops = stops

level_goes_on : (l : Level) → StopsBefore (level_status l) → ⊥
level_goes_on level.Valid h = h
level_goes_on level.Faulty h = h
level_goes_on level.BadInput h = h
level_goes_on level.Unread h = h

-- nor was one that answered documents
pub goes_on : (end : BatchEnd) (status : Status) → status ≡ batch_status end → StopsBefore status → ⊥
goes_on (batch.All tally) status e h = level_goes_on tally.level (subst StopsBefore e h)
goes_on batch.WriteFault status e h = subst StopsBefore e h
goes_on batch.Endless status e h = subst StopsBefore e h

level_writes : (l : Level) → level_status l ≡ ended.WriteFault → ⊥
level_writes level.Valid e = cc
level_writes level.Faulty e = cc
level_writes level.BadInput e = cc
level_writes level.Unread e = cc

status_failed : (end : BatchEnd) → batch_status end ≡ ended.WriteFault → end ≡ batch.WriteFault
status_failed (batch.All tally) e = absurd (level_writes tally.level e)
status_failed batch.WriteFault e = refl
status_failed batch.Endless e = cc

-- the writer failed exactly where the batch says so
pub fails_as : (end : BatchEnd) (status : Status) (P : Type 0) → status ≡ batch_status end → end ≡ batch.WriteFault ↔ P → status ≡ ended.WriteFault ↔ P
fails_as end status P e h = (λ f. h.0 (status_failed end (sym e ∙ f)), λ p. e ∙ ap batch_status (h.1 p))

-- the supply was over where all were answered
pub over_of_all : (end : BatchEnd) (is_over : Bool) → ((tally : Tally) → end ≡ batch.All tally → is_over ≡ true) → IsAll end → is_over ≡ true
over_of_all (batch.All tally) is_over h all = h tally refl
over_of_all batch.WriteFault is_over h all = absurd all
over_of_all batch.Endless is_over h all = absurd all

all_found : (end : BatchEnd) (status : Status) → status ≡ batch_status end → IsFound status → IsAll end
all_found (batch.All tally) status e h = tt
all_found batch.WriteFault status e h = subst IsFound e h
all_found batch.Endless status e h = subst IsFound e h

pub over_found : (task : Task) (files : List File) (run : RunEnd) (is_over : Bool) (unread rest : Option (List AskedDocument)) (old new : Option (List ℕ)) → RunsAll task files run is_over unread rest old new
    → IsFound run.status → AreRefused task.choice task.limit files ⊎ (is_over ≡ true)
over_found task files run is_over unread rest old new (refused r compiles writes noted) found = inl (r, compiles)
over_found task files run is_over unread rest old new (answered s compiles answers none) found = inr (answers.over (all_found answers.end run.status answers.ends found))

-- ---- documents that were answered

-- by an answer that says what the definition says
pub answers_as : (o : OutputOptions) (k : Kind) (s : Rows) (text : AskedDocument → List ℕ) (total : ℕ → ℕ → List ℕ) (level : AskedDocument → ℕ) (end : BatchEnd) (unread rest : Option (List AskedDocument)) (old new : Option (List ℕ))
    → text ≡ asked_text o k s → total ≡ asked_total o.form → level ≡ asked_level k s
    → Answers text total level end unread rest old new → Answers (asked_text o k s) (asked_total o.form) (asked_level k s) end unread rest old new
answers_as o k s text total level end unread rest old new e f g h =
    let texts = subst (λ (t : AskedDocument → List ℕ). Answers t total level end unread rest old new) e h in
    let totals = subst (λ (t : ℕ → ℕ → List ℕ). Answers (asked_text o k s) t level end unread rest old new) f texts in
    subst (λ (v : AskedDocument → ℕ). Answers (asked_text o k s) (asked_total o.form) v end unread rest old new) g totals
