use Rattle.yv_link_scopes.proofs.Blocks.{statements_stand}
use Rattle.yv_link_scopes.proofs.laws.statements_stand_in_their_blocks.Goals as goal

pub returns : goal.returns
returns c = statements_stand
