use Rattle.yv_run.proofs.BatchLemmas.{lines_are_printed}
use Rattle.yv_run.proofs.laws.labels_alone_are_new.Goals as goal

pub returns : goal.returns
returns c = lines_are_printed
