use Rattle.std.proofs.Common.{sym, ◌∙◌, ap}
use Rattle.yv_text_instance.specs.InnerStates.{completes}
use Rattle.yv_text_instance.proofs.Completion.{decided}
use Rattle.yv_text_instance.proofs.instance.is_instance_identifier.Goals as goal

pub returns : goal.returns
returns c =
    let same = c.is_end.ensures ∙ sym (ap (completes c.loop-piece.state) c.in-None.ensures.steps.0) ∙ c.loop-piece.invariant in
    let both = decided c.args.text.now in
    (λ h. both.0 (sym same ∙ h), λ p. same ∙ both.1 p)
