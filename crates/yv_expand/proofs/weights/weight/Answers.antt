use Rattle.std.proofs.Common.{refl, sym}
use Rattle.yv_link_scopes.specs.Rows.{row}
use Rattle.yv_expand.proofs.StatementWeights.{told_none, told_some}
use Rattle.yv_expand.proofs.weights.weight.Goals as goal

pub returns-in-Some : goal.returns-in-Some
returns-in-Some c = λ files rows at settled. told_some files rows c.args.values.now c.args.number c.in-Some.field-0 _ (row c.args.entry.now) at (sym c.in-Some.ensures) settled c.value.ensures

pub returns-in-None : goal.returns-in-None
returns-in-None c = λ files rows at settled. told_none files rows c.args.number 0 (row c.args.entry.now) at (sym c.in-None.ensures) refl
