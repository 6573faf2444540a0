use Rattle.yv_link_scopes.proofs.Meanings.{in_one}
use Rattle.yv_link_scopes.proofs.laws.a_name_means_one_thing.Goals as goal

pub returns : goal.returns
returns c = in_one
