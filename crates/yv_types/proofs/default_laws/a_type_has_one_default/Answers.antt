use Rattle.yv_types.proofs.DefaultOnce.{default_once}
use Rattle.yv_types.proofs.default_laws.a_type_has_one_default.Goals as goal

pub returns : goal.returns
returns c = λ files k v w h g. default_once c.a_name_means_one_thing.ensures files w h g
