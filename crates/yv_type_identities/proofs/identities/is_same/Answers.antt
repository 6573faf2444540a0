use Rattle.std.proofs.lemmas.Slice.Eq.{slice_eq-Decides}
use Rattle.yv_type_identities.proofs.KeyLists.{pair_decides}
use Rattle.yv_type_identities.proofs.identities.is_same.Goals as goal

pub returns : goal.returns
returns c = λ h. (slice_eq-Decides pair_decides c.args.one.now c.args.other.now c.eq.result c.eq.ensures).0 h
