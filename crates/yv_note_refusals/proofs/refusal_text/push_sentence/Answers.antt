use Rattle.std.proofs.Common.{◌∙◌, ◌++◌, ap, sym, subst, string_bytes}
use Rattle.std.specs.List.{find}
use Rattle.std.specs.Option.{option_and_then}
use Rattle.yv_link_scopes.specs.Rows.{Row}
use Rattle.yv_link_scopes.specs.Views.{rows_in}
use Rattle.yv_note_refusals.specs.Subject.{Names, is_at, subject}
use Rattle.yv_note_text.proofs.QuotedWords.{named_behind}
use Rattle.yv_note_refusals.proofs.refusal_text.push_sentence.Goals as goal

pub returns-clause-names : goal.returns-clause-names
returns-clause-names c =
    let rows = rows_in c.args.rows.now in
    let r = c.args.refusal.now in
    let old = string_bytes c.args.text.now in
    let said = string_bytes c.in_ok-sentence.sentence in
    subst (Names rows r) (sym (c.in_ok-push_str.ensures.bytes ∙ ap (λ t. old ++ t) c.as_str.ensures.value))
    (named_behind (option_and_then (λ (row : Row). subject r.code row.head) (find (is_at r) rows)) old said c.in_ok-sentence.ensures)
