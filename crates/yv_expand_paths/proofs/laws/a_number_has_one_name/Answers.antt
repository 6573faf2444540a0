use Rattle.yv_expand_paths.proofs.NamePlaces.{one_name}
use Rattle.yv_expand_paths.proofs.laws.a_number_has_one_name.Goals as goal

pub returns : goal.returns
returns c = λ rows a b number h g. one_name _ a b number h g
