use Rattle.std.proofs.Common.{take}
use Rattle.yv_text_statement.specs.Order.{IsLeast}
use Rattle.yv_link_scopes.specs.Views.{lent_in}
use Rattle.yv_expand_refines.specs.Targets.{meant_from}
use Rattle.yv_expand_changes.specs.Refusals.{BadRefines}
use Rattle.yv_expand_changes.specs.InnerRefusals.{AreJudged}
use Rattle.yv_expand_changes.proofs.refusals.first_wrong.Given as goal

abbrev pub invariant-loop-uses : goal.invariant-loop-uses
invariant-loop-uses l = record {
  judged : AreJudged (lent_in l.rows) l.refinements.refine_targets.items l.judged.items;
  least : IsLeast (BadRefines (lent_in l.rows) l.spots (meant_from l.refinements.refine_targets.items (take l.uses-index l.refinements.uses.items)) l.tree) l.least;
}
