use Rattle.std.proofs.Common.{take}
use Rattle.yv_text_statement.specs.Order.{IsLeast}
use Rattle.yv_link_scopes.specs.Views.{lent_in}
use Rattle.yv_type_chains.specs.Bases.{AreBases}
use Rattle.yv_type_restrictions.specs.InnerSteps.{AreTold, BadAmong}
use Rattle.yv_type_restrictions.proofs.plain_types.PlainTypes.read.Given as goal

abbrev pub invariant-loop-number : goal.invariant-loop-number
invariant-loop-number l = record {
  told : AreBases (lent_in l.rows) l.bases → AreTold (lent_in l.rows) (take l.number-index l.order) l.types;
  least : AreBases (lent_in l.rows) l.bases → IsLeast (BadAmong (lent_in l.rows) (take l.number-index l.order)) l.fault;
}
