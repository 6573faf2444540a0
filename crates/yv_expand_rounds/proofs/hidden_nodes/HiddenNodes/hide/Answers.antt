use Rattle.std.proofs.Common.{refl, sym}
use Rattle.yv_expand_rounds.proofs.DisplacedNodes.{hides_one}
use Rattle.yv_expand_rounds.proofs.hidden_nodes.HiddenNodes.hide.Goals as goal

pub returns-in_ok-push-clause-hides : goal.returns-in_ok-push-clause-hides
returns-in_ok-push-clause-hides c =
    hides_one c.args.self.now.marks.items _ c.args.found.now.items c.push.new.self.items c.args.item (sym c.if-not-is_hidden.ensures) refl c.in_ok-push.ensures.items
