use Rattle.yv_type_restrictions.proofs.Children.{child_by}
use Rattle.yv_type_restrictions.proofs.restriction.child.Goals as goal

pub returns : goal.returns
returns c = child_by c.args.statement.now c.args.keyword _ c.first.ensures
