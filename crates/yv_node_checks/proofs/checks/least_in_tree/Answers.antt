use Rattle.std.proofs.Common.{◌∙◌}
use Rattle.yv_text_statement.proofs.Least.{least_lesser}
use Rattle.yv_node_checks.specs.Above.{BadByAbove}
use Rattle.yv_node_checks.specs.Mandatory.{BadByDefault}
use Rattle.yv_nodes.specs.InnerSpots.{AreRows}
use Rattle.yv_node_checks.proofs.checks.least_in_tree.Goals as goal

pub returns : goal.returns
returns c = λ ts are.
    let rows : AreRows c.all-rows.result.now ts = c.all-rows.ensures ∙ are in
    least_lesser (BadByAbove ts) (BadByDefault ts) _ _ _ c.lesser.ensures (c.in_ok-above.ensures ts rows) (c.in_ok-default.ensures ts are)
