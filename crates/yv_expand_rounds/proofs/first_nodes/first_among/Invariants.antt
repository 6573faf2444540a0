use Rattle.std.proofs.Common.{◌≡◌, take}
use Rattle.yv_expand_rounds.specs.Paths.{first_named}
use Rattle.yv_expand_rounds.proofs.first_nodes.first_among.Given as goal

abbrev pub invariant-loop-item : goal.invariant-loop-item
invariant-loop-item l = l.first ≡ first_named l.labels l.name (take l.item-index l.items)
