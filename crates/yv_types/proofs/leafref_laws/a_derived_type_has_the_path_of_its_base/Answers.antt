use Rattle.yv_types.proofs.LeafrefOnce.{base_path}
use Rattle.yv_types.proofs.leafref_laws.a_derived_type_has_the_path_of_its_base.Goals as goal

pub returns : goal.returns
returns c = λ files k j r q f h g. base_path files c.a_type_follows_one_type.ensures k j r q f h g
