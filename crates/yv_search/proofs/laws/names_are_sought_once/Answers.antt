use Rattle.yv_search.proofs.StepLaws.{seeks_one, finds_one}
use Rattle.yv_search.proofs.laws.names_are_sought_once.Goals as goal

pub returns-clause-once : goal.returns-clause-once
returns-clause-once c = seeks_one

pub returns-clause-listed : goal.returns-clause-listed
returns-clause-listed c = finds_one
