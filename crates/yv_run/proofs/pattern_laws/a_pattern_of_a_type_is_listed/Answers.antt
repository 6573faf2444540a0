use Rattle.yv_run.proofs.PatternLemmas.{is_listed}
use Rattle.yv_run.proofs.pattern_laws.a_pattern_of_a_type_is_listed.Goals as goal

pub returns : goal.returns
returns c = λ files has. is_listed files (c.statements_have_their_rows.ensures files) has
