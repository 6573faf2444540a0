use Rattle.std.proofs.Common.{rules, sym, ap, ◌∙◌}
use Rattle.serde_json.specs.Errors.{IsMemory}
use Rattle.serde_json.specs.Read.{read}
use Rattle.yv_documents.proofs.DocumentLemmas.{json_read, json_none}
use Rattle.yv_documents.proofs.document.parse_json.Goals as goal

pub returns-in_default-clause-value : goal.returns-in_default-clause-value
returns-in_default-clause-value c = sym (json_none c.args.bytes.now c.in_default.ensures.cases.0)

pub returns-in-Ok-from_str-clause-value : goal.returns-in-Ok-from_str-clause-value
returns-in-Ok-from_str-clause-value c =
    let text = c.in-Ok.ensures.cases in
    sym (json_read c.args.bytes.now text.1 ∙ ap read (sym text.0) ∙ c.in-Ok-from_str.ensures.ok)

pub returns-in-Err-2-clause-value : goal.returns-in-Err-2-clause-value
returns-in-Err-2-clause-value c =
    let text = c.in-Ok.ensures.cases in
    let other : ¬ (IsMemory c.in-Err.error) = search rules in
    sym (json_read c.args.bytes.now text.1 ∙ ap read (sym text.0) ∙ c.in-Err.ensures.err other)
