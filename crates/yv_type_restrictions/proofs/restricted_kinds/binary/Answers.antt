use Rattle.std.proofs.Common.{Option, None, subst}
use Rattle.yv_text_statement.specs.Order.{IsLeast}
use Rattle.yv_text_statement.specs.Tree.{Tree}
use Rattle.yv_type_restrictions.specs.FacetRefusals.{BadRestriction}
use Rattle.yv_type_restrictions.proofs.restricted_kinds.binary.Goals as goal

pub returns-clause-fault : goal.returns-clause-fault
returns-clause-fault c =
    subst (λ (r : Option Tree). IsLeast (BadRestriction c.args.file None c.args.base.now r) c.in_ok-left.left.fault) c.child.ensures c.in_ok-left.ensures.fault
