-- The results of a document, as lines of JSON.
use Rattle.std.specs.Prelude.{ℕ, Bool, List, [], ◌++◌, length, flat_map}
use Rattle.std.specs.declared.option.Option.{Option}
use Rattle.yv_nodes.specs.Rows.{Rows}
use Rattle.yv_text_statement.specs.declared.document_kind.Kind.{Kind}
use Rattle.yv_data_faults.specs.Flaw.{Flaw}
use Rattle.yv_validate.specs.Faults.{faults}
use Rattle.yv_batch.specs.AskedDocument.{AskedDocument, ReadResult, Read, Unread, NoRoom}
use Rattle.yv_json_lines.specs.Values.{document_value, fault_value, json_line}
use Rattle.yv_json_lines.specs.declared.document.DocumentVerdict.{DocumentVerdict}
use Rattle.yv_json_lines.specs.declared.document.DocumentVerdict.TheVariants as verdict
use Rattle.yv_documents.specs.Document.{DocumentText, TooLarge, NotJson, Reads, document_text}
use Rattle.yv_documents.specs.DocumentLines.{faults_in}
use Rattle.yv_documents.specs.Steps.{cost_if}

-- the verdict on a document of a kind, by what its bytes are; what its validation cost is said
-- where measures are asked for
abbrev pub reading_verdict : (measures : Bool) → Kind → Rows → DocumentText → DocumentVerdict
reading_verdict measures k s TooLarge = verdict.TooLarge
reading_verdict measures k s NotJson = verdict.NotJson
reading_verdict measures k s (Reads d) =
    verdict.Validated (length (faults k s d)) (cost_if measures k s d)

-- the same by what is had of a document
abbrev pub fetched_verdict : (measures : Bool) → Kind → Rows → ReadResult → DocumentVerdict
fetched_verdict measures k s (Read given) = reading_verdict measures k s (document_text given)
fetched_verdict measures k s Unread = verdict.CannotRead
fetched_verdict measures k s NoRoom = verdict.OutOfMemory

-- its faults, by what is had of it
abbrev pub fetched_faults : Kind → Rows → ReadResult → List Flaw
fetched_faults k s (Read given) = faults_in k s (document_text given)
fetched_faults k s Unread = []
fetched_faults k s NoRoom = []

-- a line for each fault of a document of this name and line, and one of the verdict
abbrev pub results_text : (name : List ℕ) → (line : Option ℕ) → List Flaw → DocumentVerdict
    → List ℕ
results_text name line flaws v =
    flat_map (λ f. json_line (fault_value name line f)) flaws
    ++ json_line (document_value name line v)

-- the results of a document that was asked for
abbrev pub asked_results : (measures : Bool) → Kind → Rows → AskedDocument → List ℕ
asked_results measures k s a =
    results_text a.name a.line (fetched_faults k s a.fetched)
    (fetched_verdict measures k s a.fetched)
