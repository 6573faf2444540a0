use Rattle.std.proofs.Common.{◌∙◌, sym, subst}
use Rattle.yv_expand_changes.specs.InnerRefusals.{IsJudged}
use Rattle.yv_expand_changes.proofs.refusals.known_refusal.Goals as goal

pub returns-in-Some : goal.returns-in-Some
returns-in-Some c = λ files refine_targets judged spots targets tree item e there.
    subst (IsJudged files refine_targets) c.in-Some.is judged spots targets tree item (sym c.deref.ensures.value ∙ c.is_same.ensures c.if-is_same.true ∙ e) there
