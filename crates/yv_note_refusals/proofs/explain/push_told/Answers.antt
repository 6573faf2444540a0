use Rattle.std.proofs.Common.{ap, map, ◌∙◌, subst, string_bytes}
use Rattle.yv_text_statement.specs.declared.refusal.Stop.{Stop}
use Rattle.yv_link_scopes.specs.RowList.{rows_of}
use Rattle.yv_base_streams.specs.Files.{file_of}
use Rattle.yv_note_refusals.specs.Explanations.{names_row, names_syntax}
use Rattle.yv_note_refusals.specs.Subject.{Names}
use Rattle.yv_note_refusals.proofs.NoteExtension.{failed}
use Rattle.yv_note_refusals.proofs.explain.push_told.Goals as goal

pub returns-in-Ok-clause-speaks : goal.returns-in-Ok-clause-speaks
returns-in-Ok-clause-speaks c =
    names_row c.in-Ok.statements.items (c.in-Ok.ensures.reads (map file_of c.args.inputs.now) c.in_ok-texts.ensures)
    (subst (λ rs. Names rs c.args.refusal.now (string_bytes c.push_sentence.new.text)) (c.in_ok-rows-in-Ok.ensures.rows ∙ ap rows_of c.deref.ensures.value)
    c.in_ok-push_sentence-in-Ok.ensures.names)

pub returns-in-Err-Fault-clause-speaks : goal.returns-in-Err-Fault-clause-speaks
returns-in-Err-Fault-clause-speaks c =
    names_syntax c.in-Err-Fault.field-0-0
    (c.in-Err-Fault.ensures.refuses (map file_of c.args.inputs.now) c.in_ok-texts.ensures c.in-Err-Fault.field-0-0 (ap (failed _ Stop) c.in-Err-Fault.field-0-is))
