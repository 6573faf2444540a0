use Rattle.std.proofs.Common.{List, subst}
use Rattle.yv_values.specs.Identities.{Id, NumberedId, RiseById, is_between}
use Rattle.yv_values.proofs.NumberedIdentities.{part_rises}
use Rattle.yv_values.proofs.members.Members.rise.Goals as goal

pub returns : goal.returns
returns c = subst (λ (ids : List Id). RiseById ids) c.self.view_is (part_rises (λ (e : NumberedId). is_between c.self.inside.low c.self.inside.high e.number) _ c.self.invariant)
