use Rattle.std.proofs.Common.{◌≡◌, length}
use Rattle.yv_text_path.specs.NamesLeft.{names_left}
use Rattle.yv_text_path.specs.ShownPieces.{pieces_left}
use Rattle.yv_text_path.proofs.names.PredicateNamesIterator.next.Given as goal

abbrev pub invariant-loop-piece : goal.invariant-loop-piece
invariant-loop-piece l = names_left l.self ≡ names_left l.fn.self

abbrev pub decreases-loop-piece : goal.decreases-loop-piece
decreases-loop-piece l = length (pieces_left l.self.pieces)
