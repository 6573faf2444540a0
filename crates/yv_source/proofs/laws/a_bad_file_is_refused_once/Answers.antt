use Rattle.yv_source.proofs.Once.{one_bad, bad_or_legal}
use Rattle.yv_source.proofs.laws.a_bad_file_is_refused_once.Goals as goal

pub returns-clause-once : goal.returns-clause-once
returns-clause-once c = one_bad

pub returns-clause-not_legal : goal.returns-clause-not_legal
returns-clause-not_legal c = bad_or_legal
