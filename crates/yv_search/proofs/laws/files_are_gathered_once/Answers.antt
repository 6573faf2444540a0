use Rattle.yv_search.proofs.Uniqueness.{gathered_once}
use Rattle.yv_search.proofs.laws.files_are_gathered_once.Goals as goal

pub returns : goal.returns
returns c = gathered_once
