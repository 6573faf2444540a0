use Rattle.std.proofs.Common.{◌≡◌, length}
use Rattle.yv_node_checks.specs.InnerNamesakes.{AreCases}
use Rattle.yv_text_statement.specs.Order.{Among, IsLeast}
use Rattle.yv_nodes.specs.Tree.{Forest}
use Rattle.yv_nodes.specs.Places.{places}
use Rattle.yv_nodes.specs.InnerSpots.{AreRows}
use Rattle.yv_node_checks.specs.Mandatory.{BadOfDefault}
use Rattle.yv_node_checks.proofs.mandatory.least_by_default.Given as goal

abbrev pub invariant-loop-number : goal.invariant-loop-number
invariant-loop-number l = record {
  each : length l.cases.items ≡ l.number;
  cases : AreCases l.nodes.rows l.cases.items;
  least : (ts : Forest) → AreRows l.nodes.rows ts → IsLeast (Among (places ts) (λ k. BadOfDefault) l.number) l.least;
}
