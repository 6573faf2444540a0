use Rattle.yv_link_scopes.proofs.Order.{rows_follow}
use Rattle.yv_link_scopes.proofs.laws.numbers_follow_offsets.Goals as goal

pub returns : goal.returns
returns c = rows_follow
