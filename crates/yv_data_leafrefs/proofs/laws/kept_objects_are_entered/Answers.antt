use Rattle.yv_data_leafrefs.proofs.IndexAnswers.{positions_length}
use Rattle.yv_data_leafrefs.proofs.laws.kept_objects_are_entered.Goals as goal

pub returns : goal.returns
returns c = positions_length
