use Rattle.yv_expand_rounds.proofs.DisplacedNodes.{updated}
use Rattle.yv_expand_rounds.proofs.hidden_nodes.HiddenNodes.update.Goals as goal

pub returns : goal.returns
returns c = λ labels groups are.
    updated groups c.args.self.now.marks.items c.hide_all.new.self.marks.items c.hide_below.new.self.marks.items c.args.end c.args.displaced.now
    c.in_ok-found.found.items c.hide_all.new.found.items c.in_ok-hide_all.ensures.hides c.in_ok-found.ensures c.in_ok-hide_all.ensures.covers
    (c.in_ok-hide_below.ensures labels groups are)
