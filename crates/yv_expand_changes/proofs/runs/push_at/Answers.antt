use Rattle.std.proofs.Common.{refl, arith}
use Rattle.yv_expand_changes.proofs.RefineRuns.{one_longer}
use Rattle.yv_expand_changes.proofs.runs.push_at.Goals as goal

pub returns-in_ok-push : goal.returns-in_ok-push
returns-in_ok-push c =
    one_longer c.args.runs.now.items _ c.args.path c.args.refine c.index_mut.result.now c.push.new.self refl (omega (arith, c.if-path-len.true, c.len.ensures)) c.index_mut.ensures.value c.in_ok-push.ensures.items
