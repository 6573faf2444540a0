use Rattle.yv_link_scopes.proofs.Bodies.{rows_nested}
use Rattle.yv_link_scopes.proofs.laws.blocks_are_nested.Goals as goal

pub returns : goal.returns
returns c = rows_nested
