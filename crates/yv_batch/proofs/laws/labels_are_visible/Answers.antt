use Rattle.yv_batch.proofs.LabelLemmas.{label_visible}
use Rattle.yv_batch.proofs.laws.labels_are_visible.Goals as goal

pub returns : goal.returns
returns c = label_visible
