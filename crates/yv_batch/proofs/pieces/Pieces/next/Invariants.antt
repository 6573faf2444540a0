use Rattle.yv_batch.specs.InnerPieces.{IsKept}
use Rattle.yv_batch.specs.PiecesLeft.{left_of}
use Rattle.yv_batch.proofs.pieces.Pieces.next.Given as goal

-- a part of the text was passed, and its first bytes are kept
abbrev pub invariant-loop : goal.invariant-loop
invariant-loop g l = IsKept l.end l.limit (left_of g.R.Read.remaining l.initial.self) (left_of g.R.Read.remaining l.self) l.front.items
