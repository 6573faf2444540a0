use Rattle.yv_expand_laws.proofs.InitialNodes.{beginning_shows}
use Rattle.yv_expand_laws.proofs.laws.modules_and_their_augments_begin_apart.Goals as goal

pub returns : goal.returns
returns c = beginning_shows
