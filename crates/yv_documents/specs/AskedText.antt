-- All that is written of documents, in the form that is asked for.
use Rattle.std.specs.Prelude.{ℕ, Bool, List}
use Rattle.yv_nodes.specs.Rows.{Rows}
use Rattle.yv_text_statement.specs.declared.document_kind.Kind.{Kind}
use Rattle.yv_job.specs.declared.job.OutputForm.{OutputForm}
use Rattle.yv_job.specs.declared.job.OutputForm.TheVariants as form
use Rattle.yv_job.specs.declared.job.OutputOptions.{OutputOptions}
use Rattle.yv_batch.specs.AskedDocument.{AskedDocument}
use Rattle.yv_batch.specs.Batch.{total_line}
use Rattle.yv_batch.specs.Label.{labelled_text}
use Rattle.yv_json_lines.specs.Values.{json_line, run_value}
use Rattle.yv_documents.specs.DocumentLines.{asked_lines}
use Rattle.yv_documents.specs.DocumentResults.{asked_results}

-- what is written of a document of a kind in a form: lines of text, each with its label, or its
-- results as lines of JSON, which have none
abbrev pub form_text : OutputForm → (measures : Bool) → Kind → Rows → AskedDocument → List ℕ
form_text form.Text measures k s a = labelled_text (asked_lines measures k s) a
form_text form.Json measures k s a = asked_results measures k s a

-- what is written of a document, as these options ask
abbrev pub asked_text : OutputOptions → Kind → Rows → AskedDocument → List ℕ
asked_text options k s a = form_text options.form options.measures k s a

-- what is written after documents, by how many of them are valid and how many there are
abbrev pub asked_total : OutputForm → (valid count : ℕ) → List ℕ
asked_total form.Text valid count = total_line valid count
asked_total form.Json valid count = json_line (run_value count valid)
