use Rattle.yv_source.proofs.Once.{one_spelled, one_refused, spelled_or_refused}
use Rattle.yv_source.proofs.laws.a_text_is_spelled_or_refused_once.Goals as goal

pub returns-clause-spells : goal.returns-clause-spells
returns-clause-spells c = one_spelled

pub returns-clause-refuses : goal.returns-clause-refuses
returns-clause-refuses c = one_refused

pub returns-clause-not_both : goal.returns-clause-not_both
returns-clause-not_both c = spelled_or_refused
