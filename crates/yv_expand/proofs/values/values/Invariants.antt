use Rattle.std.proofs.Common.{◌≡◌, ℕ, length, take}
use Rattle.std.specs.List.{Contains}
use Rattle.yv_link_scopes.specs.Files.{Briefs}
use Rattle.yv_link_scopes.specs.Views.{rows_in}
use Rattle.yv_base_graph.specs.Graph.{IsOrder}
use Rattle.yv_expand.specs.InnerSteps.{AreSteps, IsSettled}
use Rattle.yv_expand.proofs.values.values.Given as goal

abbrev pub invariant-loop-number : goal.invariant-loop-number
invariant-loop-number l = record {
  each : length l.values.items ≡ length (rows_in l.rows);
  done : (files : Briefs) → AreSteps files (rows_in l.rows) l.steps → IsOrder l.steps l.order → (b : ℕ)
      → Contains (take l.number-index l.order) b → IsSettled files (rows_in l.rows) l.values.items b;
}
