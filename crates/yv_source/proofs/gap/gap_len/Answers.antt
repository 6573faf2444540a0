use Rattle.std.proofs.Common.{◌+◌, ◌≤◌, arith, length, ap, sym, subst}
use Rattle.yv_source.specs.Inner.Gap.{IsGap, Empty}
use Rattle.yv_source.proofs.Gaps.{past_next_blanks, past_next_comment}
use Rattle.yv_source.proofs.gap.gap_len.Goals as goal

pub loop-comment-init : goal.loop-comment-init
loop-comment-init c = (omega arith, Empty)

pub returns-in_default-clause-gap : goal.returns-in_default-clause-gap
returns-in_default-clause-gap c =
    (past_next_blanks c.args.bytes.now _ _ c.loop-comment.invariant.0 c.loop-comment.invariant.1 c.blank_len-at.ensures.within c.blank_len-at.ensures.blank).1

pub length-at-requires : goal.length-at-requires
length-at-requires c =
    let on = past_next_comment c.args.bytes.now _ _ c.loop-comment.invariant.0 c.loop-comment.invariant.1 c.blank_len-at.ensures.within c.blank_len-at.ensures.blank _ c.in-Some.ensures in
    omega (arith, on.0, c.type_inv.bytes)

pub overflow_add-at-in-loop-comment : goal.overflow_add-at-in-loop-comment
overflow_add-at-in-loop-comment c =
    let on = past_next_comment c.args.bytes.now _ _ c.loop-comment.invariant.0 c.loop-comment.invariant.1 c.blank_len-at.ensures.within c.blank_len-at.ensures.blank _ c.in-Some.ensures in
    record { fits = omega (arith, on.0, c.length-at.ensures, c.type_inv.bytes) }

pub loop-comment-preserved : goal.loop-comment-preserved
loop-comment-preserved c =
    let on = past_next_comment c.args.bytes.now _ _ c.loop-comment.invariant.0 c.loop-comment.invariant.1 c.blank_len-at.ensures.within c.blank_len-at.ensures.blank _ c.in-Some.ensures in
    subst (λ n. (n ≤ length c.args.bytes.now) × IsGap c.args.bytes.now n) (ap (λ n. c.loop-comment.at + c.blank_len-at.result + n) (sym c.length-at.ensures)) on
