use Rattle.std.proofs.Common.{◌≡◌}
use Rattle.yv_text_path.specs.InnerStates.{completes}
use Rattle.yv_text_path.specs.Pieces.{pieces}
use Rattle.yv_text_path.specs.ShownPieces.{pieces_left}
use Rattle.yv_text_path.specs.declared.state.State.TheVariants.{Start}
use Rattle.yv_text_path.proofs.path.is_path.Given as goal

abbrev pub invariant-loop-piece : goal.invariant-loop-piece
invariant-loop-piece l = completes l.state (pieces_left l.piece-iterator) ≡ completes Start (pieces l.text)
