use Rattle.std.proofs.Common.{List, Option, None, subst, codes}
use Rattle.yv_text_statement.specs.Order.{IsLeast}
use Rattle.yv_text_statement.specs.Tree.{Tree, trees}
use Rattle.yv_text_statement.proofs.Least.{least_lesser}
use Rattle.yv_type_restrictions.specs.Facets.{child}
use Rattle.yv_type_restrictions.specs.FacetRefusals.{BadPatterns, BadRestriction}
use Rattle.yv_type_restrictions.proofs.restricted_kinds.text.Goals as goal

pub returns-clause-fault : goal.returns-clause-fault
returns-clause-fault c =
    let t : Tree = c.args.statement.now in
    let by_length : Option Tree → Type 0 = λ r. IsLeast (BadRestriction c.args.file None c.args.base.now.lengths r) c.in_ok-left.left.fault in
    let by_patterns : List Tree → Type 0 = λ cs. IsLeast (BadPatterns c.args.file cs) c.in-Ok.read.fault in
    least_lesser (BadRestriction c.args.file None c.args.base.now.lengths (child (codes "length") t)) (BadPatterns c.args.file (trees t.children)) _ _ _ c.lesser.ensures
    (subst by_length c.child-length.ensures c.in_ok-left.ensures.fault)
    (subst by_patterns c.children.ensures c.in-Ok.ensures.fault)
