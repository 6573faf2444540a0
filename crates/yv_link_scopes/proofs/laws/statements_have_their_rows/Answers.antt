use Rattle.yv_link_scopes.proofs.StatementTraversal.{heads_same}
use Rattle.yv_link_scopes.proofs.laws.statements_have_their_rows.Goals as goal

pub returns : goal.returns
returns c = heads_same
