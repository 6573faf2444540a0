use Rattle.std.proofs.Common.{◌≡◌, ◌<◌, length, ◌∷◌, ap, arith}
use Rattle.yv_text_path.specs.InnerPieces.{word_len}
use Rattle.yv_text_path.specs.Pieces.{pieces, Word}
use Rattle.yv_text_path.specs.ShownPieces.{pieces_left}
use Rattle.yv_text_path.proofs.Cuts.{first_word}
use Rattle.yv_text_path.proofs.piece.PiecesIterator.next.Goals as goal
use Rattle.yv_text_path.proofs.piece.PiecesIterator.next.Goals.{After-split_at}

-- the first word, and what follows it
first : (c : After-split_at) → pieces_left c.args.self.now ≡ Word c.split_at.result.0.now ∷ pieces c.split_at.result.1.now
first c =
    let long : 0 < word_len c.args.self.now.rest.now = omega (arith, c.word_len-count.ensures.len, c.if-count-gt0.true) in
    rw (c.split_at.ensures.front, c.split_at.ensures.back, c.word_len-count.ensures.len) (first_word c.args.self.now.rest.now long)

pub returns-then-count-gt0-clause-steps : goal.returns-then-count-gt0-clause-steps
returns-then-count-gt0-clause-steps c = first (goal.at.returns-then-count-gt0-clause-steps c).After-split_at

pub returns-then-count-gt0-clause-goes : goal.returns-then-count-gt0-clause-goes
returns-then-count-gt0-clause-goes c =
    let shorter = ap length (first (goal.at.returns-then-count-gt0-clause-goes c).After-split_at) in
    record { on = λ _. (tt, tt, omega (arith, shorter)); keeps = tt; rests = λ _. tt }
