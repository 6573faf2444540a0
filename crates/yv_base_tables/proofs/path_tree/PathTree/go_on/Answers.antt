use Rattle.std.proofs.Common.{◌≡◌, Some, None, sym, ◌∙◌}
use Rattle.yv_base_tables.proofs.path_tree.PathTree.go_on.Goals as goal

pub returns-in-None-clause-adds : goal.returns-in-None-clause-adds
returns-in-None-clause-adds c = λ paths steps is at deep.
    c.grow.ensures.adds paths steps is at deep (λ path on. let bad : None ≡ Some path = sym c.in-None.is ∙ c.next.ensures.all paths path is on in cc)
