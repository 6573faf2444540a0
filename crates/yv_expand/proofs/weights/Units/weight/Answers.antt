use Rattle.std.proofs.Common.{◌∙◌, ap, get_or}
use Rattle.yv_expand.proofs.weights.Units.weight.Goals as goal

pub returns : goal.returns
returns c = λ files units within.
    let told = units.weights c.args.number within in
    (told.0, told.1, c.value.ensures ∙ ap (λ l. get_or l c.args.number 0) c.deref.ensures.value ∙ told.2)
