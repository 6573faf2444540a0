use Rattle.std.proofs.Common.{◌≡◌, length}
use Rattle.yv_link_scopes.specs.Files.{Briefs}
use Rattle.yv_link_scopes.specs.Views.{rows_in}
use Rattle.yv_expand.specs.InnerSteps.{AreSettled}
use Rattle.yv_expand.proofs.StatementWeights.{AreTold}
use Rattle.yv_expand.proofs.weights.weights.Given as goal

abbrev pub invariant-loop-number : goal.invariant-loop-number
invariant-loop-number l = record {
  each : length l.weights.items ≡ l.number;
  told : (files : Briefs) → AreSettled files (rows_in l.rows) l.values → AreTold files (rows_in l.rows) l.number l.weights.items;
}
