use Rattle.std.proofs.Common.{List, sym, subst, ap, ◌∙◌}
use Rattle.yv_values.specs.Identities.{Id, RiseById, ids_of}
use Rattle.yv_values.proofs.NumberedIdentities.{ids_numbered}
use Rattle.yv_values.proofs.numbered_members.NumberedMembers.rise.Goals as goal

pub returns : goal.returns
returns c = subst (λ (ids : List Id). RiseById ids) (sym (ids_numbered _) ∙ ap ids_of c.self.view_is) c.self.invariant
