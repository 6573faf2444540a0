use Rattle.yv_expand_uses.specs.Paths.{module_paths}
use Rattle.yv_expand_augments.specs.Augmentation.{placement}
use Rattle.yv_expand_uses.specs.Spots.{labels_of, layout_of}
use Rattle.yv_expand_augments.proofs.laws.augments_come_to_one.Goals as goal

pub returns : goal.returns
returns c = λ w items a b p q.
    c.rounds_come_to_one.ensures (labels_of (layout_of w items).spots) 0 (module_paths w) (placement w (layout_of w items)) a b p.applied q.applied
