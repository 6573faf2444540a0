use Rattle.std.proofs.Common.{sym}
use Rattle.yv_text_statement.specs.Tree.{trees-forest}
use Rattle.yv_text_statement.proofs.statement.Statement.children.Goals as goal

pub returns : goal.returns
returns c = rw (c.deref.ensures.value, ← c.self.view_is) (sym (trees-forest _))
