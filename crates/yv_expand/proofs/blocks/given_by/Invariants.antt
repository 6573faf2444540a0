use Rattle.std.proofs.Common.{◌≡◌, take}
use Rattle.std.specs.List.{flat_map}
use Rattle.yv_expand.specs.InnerItems.{numbers_at}
use Rattle.yv_expand.proofs.blocks.given_by.Given as goal

abbrev pub invariant-loop-augment : goal.invariant-loop-augment
invariant-loop-augment l = l.given.items ≡ flat_map (numbers_at l.own) (take l.augment-index l.augments)
