use Rattle.std.proofs.Common.{◌≡◌, take}
use Rattle.std.specs.List.{flat_map}
use Rattle.yv_expand.specs.InnerItems.{top_at}
use Rattle.yv_expand.proofs.lists.firsts_in.Given as goal

abbrev pub invariant-loop-file : goal.invariant-loop-file
invariant-loop-file l = l.firsts.items ≡ flat_map (top_at l.tops l.given) (take l.file-index l.order)
