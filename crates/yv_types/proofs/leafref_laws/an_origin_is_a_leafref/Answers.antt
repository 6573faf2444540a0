use Rattle.yv_types.proofs.LeafrefOnce.{from_leafref}
use Rattle.yv_types.proofs.leafref_laws.an_origin_is_a_leafref.Goals as goal

pub returns : goal.returns
returns c = λ files k r h. from_leafref files h
