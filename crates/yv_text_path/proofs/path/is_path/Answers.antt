use Rattle.std.proofs.Common.{sym, ◌∙◌, ap}
use Rattle.yv_text_path.specs.InnerStates.{completes}
use Rattle.yv_text_path.proofs.Completion.{decided}
use Rattle.yv_text_path.proofs.path.is_path.Goals as goal

pub returns : goal.returns
returns c =
    decided c.args.text.now c.is_end.result
    (c.is_end.ensures ∙ sym (ap (completes c.loop-piece.state) c.in-None.ensures.steps.0) ∙ c.loop-piece.invariant)
