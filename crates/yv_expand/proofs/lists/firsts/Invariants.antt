use Rattle.std.proofs.Common.{◌≡◌}
use Rattle.yv_expand.specs.InnerItems.{tops_before}
use Rattle.yv_expand.proofs.lists.firsts.Given as goal

abbrev pub invariant-loop-file : goal.invariant-loop-file
invariant-loop-file l = l.firsts.items ≡ tops_before l.tops l.given l.file
