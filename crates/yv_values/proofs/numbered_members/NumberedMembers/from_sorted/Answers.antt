use Rattle.std.proofs.Common.{subst, List}
use Rattle.yv_values.specs.declared.numbered_members.NumberedMember.{NumberedMember}
use Rattle.yv_values.specs.InnerMembers.{HasStop}
use Rattle.yv_values.proofs.Twins.{stopped_twins}
use Rattle.yv_values.proofs.numbered_members.NumberedMembers.from_sorted.Goals as goal

pub returns-then-not-rise-clause-twins : goal.returns-then-not-rise-clause-twins
returns-then-not-rise-clause-twins c =
    stopped_twins c.args.members.items c.requires (subst (λ (ms : List NumberedMember). HasStop ms) c.deref.ensures.value (c.rise.ensures.stops c.if-not-rise.true))
