use Rattle.std.proofs.Common.{◌∙◌, ap}
use Rattle.yv_link_scopes.specs.Views.{lent_in}
use Rattle.yv_expand_changes.specs.InnerAlike.{ways_of}
use Rattle.yv_expand_changes.proofs.refusals.judge.Goals as goal

pub returns-in-Some-clause-least : goal.returns-in-Some-clause-least
returns-in-Some-clause-least c = λ known spots targets tree item e there.
    c.in-Some.ensures (lent_in c.args.rows.now) c.args.refine_targets.now known spots targets tree item
    (c.deref-2.ensures.value ∙ c.in_ok-ways.ensures ∙ ap (ways_of c.args.spots.now) c.deref.ensures.value ∙ e) there

pub returns-clause-judges : goal.returns-clause-judges
returns-clause-judges c = λ known spots targets tree item e there. c.least_of-least.ensures spots targets tree item (c.deref-3.ensures.value ∙ e) there

pub returns-clause-least : goal.returns-clause-least
returns-clause-least c = λ known spots targets tree item e there.
    c.least_of-least.ensures spots targets tree item (c.deref-3.ensures.value ∙ c.in_ok-ways.ensures ∙ ap (ways_of c.args.spots.now) c.deref.ensures.value ∙ e) there
