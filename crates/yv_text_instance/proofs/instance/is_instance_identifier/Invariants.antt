use Rattle.std.proofs.Common.{◌≡◌}
use Rattle.yv_text_path.specs.Pieces.{pieces}
use Rattle.yv_text_path.specs.ShownPieces.{pieces_left}
use Rattle.yv_text_instance.specs.InnerStates.{completes}
use Rattle.yv_text_instance.specs.declared.state.State.TheVariants.{Start}
use Rattle.yv_text_instance.proofs.instance.is_instance_identifier.Given as goal

abbrev pub invariant-loop-piece : goal.invariant-loop-piece
invariant-loop-piece l = completes l.state (pieces_left l.piece-iterator) ≡ completes Start (pieces l.text)
