use Rattle.yv_batch.specs.InnerPieces.{PassesPart}
use Rattle.yv_batch.specs.PiecesLeft.{left_of}
use Rattle.yv_batch.proofs.pieces.Pieces.pass_rest.Given as goal

-- a part of the text was passed
abbrev pub invariant-loop : goal.invariant-loop
invariant-loop g l = PassesPart l.end (left_of g.R.Read.remaining l.initial.self) (left_of g.R.Read.remaining l.self)
