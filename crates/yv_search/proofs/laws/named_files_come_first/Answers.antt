use Rattle.yv_search.proofs.StepLaws.{named_first}
use Rattle.yv_search.proofs.laws.named_files_come_first.Goals as goal

pub returns : goal.returns
returns c = named_first
