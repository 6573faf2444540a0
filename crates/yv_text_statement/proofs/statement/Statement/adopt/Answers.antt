use Rattle.std.proofs.Common.{ap}
use Rattle.yv_text_statement.specs.Tree.{Forest}
use Rattle.yv_text_statement.specs.View.{tree_of}
use Rattle.yv_text_statement.proofs.ChildAddition.{forest-append}
use Rattle.yv_text_statement.proofs.statement.Statement.adopt.Goals as goal

pub returns-clause-ok : goal.returns-clause-ok
returns-clause-ok c =
    rw (c.in_ok-push.ensures.items, c.settle.ensures, ← c.self.view_is)
    (ap (λ (f : Forest). record { head = (tree_of c.self.inside).head; children = f }) (forest-append c.self.inside.children.items c.args.child))
