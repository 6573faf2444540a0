use Rattle.yv_text_statement.proofs.Least.{up_to_both}
use Rattle.yv_text_statement.proofs.laws.order_tells_refusals_apart.Goals as goal

pub returns : goal.returns
returns c = up_to_both
