use Rattle.std.proofs.Common.{Option, Some, subst}
use Rattle.yv_text_statement.specs.Order.{IsLeast}
use Rattle.yv_text_statement.specs.Tree.{Tree}
use Rattle.yv_type_restrictions.specs.FacetRefusals.{BadRestriction}
use Rattle.yv_type_restrictions.proofs.restricted_kinds.decimal.Goals as goal

pub returns-clause-fault : goal.returns-clause-fault
returns-clause-fault c =
    subst (λ (r : Option Tree). IsLeast (BadRestriction c.args.file (Some c.args.base.now.digits) c.args.base.now.spans r) c.in_ok-left.left.fault) c.child-range.ensures c.in_ok-left.ensures.fault
