use Rattle.yv_expand.proofs.StatementFit.{statement_fits}
use Rattle.yv_expand.proofs.conformance_laws.numbered_statements_fit.Goals as goal

pub returns : goal.returns
returns c = λ files k t fine at. statement_fits files k t fine at
