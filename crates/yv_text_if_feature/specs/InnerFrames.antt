-- Only private clauses cite this: frames in an array as a list.
use Rattle.std.proofs.Common.{zero, suc, get_or}
use Rattle.std.specs.Prelude.{ℕ, List, [], ◌∷◌}
use Rattle.yv_text_if_feature.specs.State.{empty}
use Rattle.yv_text_if_feature.specs.declared.frame.Frame.{Frame}

-- the first n frames, the last of them first
abbrev pub frames_below : List Frame → ℕ → List Frame
frames_below fs zero = []
frames_below fs (suc n) = get_or fs n empty ∷ frames_below fs n
