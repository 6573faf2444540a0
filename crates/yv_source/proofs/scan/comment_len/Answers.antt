use Rattle.std.proofs.Common.{◌+◌, sym, ◌∙◌}
use Rattle.std.proofs.lemmas.List.{take_rest}
use Rattle.yv_source.specs.Pieces.{begins, begins_two}
use Rattle.yv_source.proofs.Until.{searched_on, no_comment_end, comment_found, comment_on}
use Rattle.yv_source.proofs.scan.comment_len.Goals as goal

pub returns-then-ends_comment : goal.returns-then-ends_comment
returns-then-ends_comment c =
    let xs = c.args.bytes.now in
    let at = c.loop-at.at + c.first_byte-at.result in
    let here = searched_on (begins_two 42 47) (begins 42) xs _ c.loop-at.at c.first_byte-at.result no_comment_end c.loop-at.invariant (take_rest xs c.loop-at.at) c.first_byte-at.ensures.value in
    comment_found xs _ at here (take_rest xs at) (sym c.ends_comment.ensures ∙ c.if-ends_comment.true)

pub loop-at-preserved : goal.loop-at-preserved
loop-at-preserved c =
    let xs = c.args.bytes.now in
    let at = c.loop-at.at + c.first_byte-at.result in
    let here = searched_on (begins_two 42 47) (begins 42) xs _ c.loop-at.at c.first_byte-at.result no_comment_end c.loop-at.invariant (take_rest xs c.loop-at.at) c.first_byte-at.ensures.value in
    comment_on xs _ at here (take_rest xs at) (sym c.ends_comment.ensures ∙ c.if-ends_comment.false)
