use Rattle.std.proofs.Common.{◌≤◌, ◌&&◌, ap, sym, ◌∙◌, arith, length, drop, ◌+◌}
use Rattle.std.proofs.lemmas.List.{take_rest, length-take-le}
use Rattle.yv_source.specs.Pieces.{begins}
use Rattle.yv_text_if_feature.specs.Names.{is_identifier}
use Rattle.yv_source.proofs.MachineViews.{key_without, key_with, length-until}
use Rattle.yv_source.proofs.identifier.is_keyword.Goals as goal

pub returns-then-colon-bytes : goal.returns-then-colon-bytes
returns-then-colon-bytes c =
    sym (key_without c.args.bytes.now (sym c.is_identifier.ensures ∙ c.if-is_identifier.false) (sym c.first_byte-colon.ensures.value ∙ c.if-colon-bytes.true))

pub slice_bounds-is_identifier-end : goal.slice_bounds-is_identifier-end
slice_bounds-is_identifier-end c =
    let within : c.first_byte-colon.result ≤ length c.args.bytes.now = omega (arith, c.first_byte-colon.ensures.value, length-until (begins 58) c.args.bytes.now) in
    sym (length-take-le c.first_byte-colon.result c.args.bytes.now within)

pub returns-then-is_identifier-2 : goal.returns-then-is_identifier-2
returns-then-is_identifier-2 c =
    let n = c.first_byte-colon.result in
    let bs = c.args.bytes.now in
    c.is_identifier-then-is_identifier-2.ensures
    ∙ ap is_identifier (take_rest bs (n + 1))
    ∙ sym (key_with bs n (sym c.is_identifier.ensures ∙ c.if-is_identifier.false) c.first_byte-colon.ensures.value
    ∙ ap (λ v. v && is_identifier (drop (n + 1) bs)) (sym c.is_identifier-2.ensures ∙ c.if-is_identifier-2.true))

pub returns-else-is_identifier-2 : goal.returns-else-is_identifier-2
returns-else-is_identifier-2 c =
    let n = c.first_byte-colon.result in
    let bs = c.args.bytes.now in
    c.if-is_identifier-2.false
    ∙ sym (key_with bs n (sym c.is_identifier.ensures ∙ c.if-is_identifier.false) c.first_byte-colon.ensures.value
    ∙ ap (λ v. v && is_identifier (drop (n + 1) bs)) (sym c.is_identifier-2.ensures ∙ c.if-is_identifier-2.false))
