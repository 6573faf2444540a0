use Rattle.std.proofs.Common.{◌≡◌, ◌∙◌, ap, subst, string_bytes, IfOk}
use Rattle.yv_text_statement.specs.Codes.{name_of}
use Rattle.yv_base_positions.specs.Column.{column}
use Rattle.yv_note_refusals.proofs.OtherLines.{front_same}
use Rattle.yv_note_refusals.proofs.other_files.front_of_line.Goals as goal

pub returns : goal.returns
returns c =
    let at = c.args.refusal.now.offset in
    let place : c.column_of-column.result ≡ column c.args.input.now.bytes.items at = c.column_of-column.ensures ∙ ap (λ bytes. column bytes at) c.as_slice.ensures.value in
    subst (λ t. IfOk c.format.result (λ s. string_bytes s ≡ t))
    (front_same c.as_str-name.result.now (string_bytes c.args.input.now.name) c.name-code.result.now (name_of c.args.refusal.now.code) c.args.refusal.now.line c.column_of-column.result (column c.args.input.now.bytes.items at)
    c.as_str-name.ensures.value place c.name-code.ensures)
    c.format.ensures.ok
