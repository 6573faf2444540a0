use Rattle.std.proofs.Common.{sym, ◌∙◌, ap}
use Rattle.yv_source.specs.Pieces.{BlockComment, begins_two, until}
use Rattle.yv_source.specs.Inner.Scan.{from, ahead_of}
use Rattle.yv_source.specs.declared.scan.Ahead.TheVariants as ahead
use Rattle.yv_source.specs.declared.scan.FoundPiece.TheVariants as found
use Rattle.yv_source.proofs.Until.{closed_by_two_none, closed_by_two_some}
use Rattle.yv_source.proofs.FirstPiece.{until_from}
use Rattle.yv_source.proofs.scan.block_comment.Goals as goal

pub returns-then-len-rest : goal.returns-then-len-rest
returns-then-len-rest c =
    sym (ap ahead_of (closed_by_two_none (BlockComment (until (begins_two 42 47) c.args.rest.now)) (until (begins_two 42 47) c.args.rest.now) (from (begins_two 42 47) c.args.rest.now) c.args.rest.now (until_from (begins_two 42 47) c.args.rest.now) (sym c.comment_len-len.ensures ∙ c.if-len-rest.true)))

pub returns-else-len-rest : goal.returns-else-len-rest
returns-else-len-rest c =
    let some = closed_by_two_some (BlockComment (until (begins_two 42 47) c.args.rest.now)) (until (begins_two 42 47) c.args.rest.now) (from (begins_two 42 47) c.args.rest.now) c.args.rest.now (until_from (begins_two 42 47) c.args.rest.now) (λ e. c.if-len-rest.false (c.comment_len-len.ensures ∙ e)) in
    ap (λ n. ahead.Piece (found.BlockComment n)) c.comment_len-len.ensures ∙ sym (ap ahead_of some.1)
