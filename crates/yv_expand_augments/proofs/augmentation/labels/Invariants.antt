use Rattle.std.proofs.Common.{◌≡◌, take}
use Rattle.yv_expand_uses.specs.Spots.{labels_of}
use Rattle.yv_expand_augments.proofs.augmentation.labels.Given as goal

abbrev pub invariant-loop-spot : goal.invariant-loop-spot
invariant-loop-spot l = l.labels.items ≡ labels_of (take l.spot-index l.spots)
