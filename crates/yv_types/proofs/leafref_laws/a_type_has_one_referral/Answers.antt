use Rattle.yv_types.proofs.LeafrefOnce.{said_once}
use Rattle.yv_types.proofs.leafref_laws.a_type_has_one_referral.Goals as goal

pub returns : goal.returns
returns c = λ files k a b h g. said_once files c.a_type_follows_one_type.ensures b h g
