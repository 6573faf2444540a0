use Rattle.std.proofs.Common.{arith}
use Rattle.yv_schema.proofs.ChildPlacement.{pushed}
use Rattle.yv_schema.proofs.families.push_at.Goals as goal

pub returns-in_ok-push : goal.returns-in_ok-push
returns-in_ok-push c =
    pushed c.args.lists.now.items c.args.place c.args.number c.index_mut.result.now c.push.new.self (omega (arith, c.if-place-len.true, c.len.ensures)) c.index_mut.ensures.value
    c.in_ok-push.ensures.items
