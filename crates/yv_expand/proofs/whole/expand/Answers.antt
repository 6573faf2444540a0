use Rattle.std.proofs.Common.{subst}
use Rattle.yv_text_statement.specs.Order.{IsLeast}
use Rattle.yv_link_scopes.specs.Views.{lent_in}
use Rattle.yv_expand_statements.specs.Limit.{TooMany}
use Rattle.yv_expand.proofs.whole.expand.Goals as goal

pub returns-clause-fits : goal.returns-clause-fits
returns-clause-fits c = λ names. subst (IsLeast (TooMany (lent_in c.args.rows.now) c.args.given.now c.args.limit)) c.in_default.is (c.in_ok-refusal.ensures.refusal names)
