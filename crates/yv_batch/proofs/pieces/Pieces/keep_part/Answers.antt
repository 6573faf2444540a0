use Rattle.std.proofs.Common.{◌++◌, ℕ, List, min, take, ap, ◌∙◌, rules}
use Rattle.yv_batch.specs.PiecesLeft.{left_of, pending_of}
use Rattle.yv_batch.proofs.PieceLemmas.{taken_part}
use Rattle.yv_batch.proofs.pieces.Pieces.keep_part.Goals as goal

pub returns-clause-gives : goal.returns-clause-gives
returns-clause-gives g c = λ start kept.
    let count = c.count_before-count.result in
    let room = c.saturating_sub-room.result in
    taken_part c.args.end c.args.limit start (left_of g.R.Read.remaining c.args.self.now) (left_of g.R.Read.remaining c.pass_part.new.self) c.args.front.now.items c.extend_from_slice.new.self.items
    (pending_of c.args.self.now) count room c.pass_part.result c.count_before-count.ensures c.pass_part.ensures kept
    (c.in_ok-extend_from_slice.ensures.items ∙ ap (λ (m : ℕ). c.args.front.now.items ++ take m c.bytes_at_hand.result.now) c.min.ensures ∙ ap (λ (l : List ℕ). c.args.front.now.items ++ take (min count room) l) c.bytes_at_hand.ensures)
    (search rules)
