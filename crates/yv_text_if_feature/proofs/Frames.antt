-- The frames of a stack, as a list.
use Rattle.std.proofs.Common.{◌≡◌, ◌≢◌, ◌≤◌, ◌<◌, ◌+◌, ℕ, zero, suc, List, ◌∷◌, get_or, set, length, get_or-set_other, get_or-set_same, ap, refl, arith}
use Rattle.yv_text_if_feature.specs.State.{empty}
use Rattle.yv_text_if_feature.specs.InnerFrames.{frames_below}
use Rattle.yv_text_if_feature.specs.declared.frame.Frame.{Frame}

-- a frame above is none of them
unchanged : (fs : List Frame) (k n : ℕ) (f : Frame) → n ≤ k → frames_below (set fs k f) n ≡ frames_below fs n
unchanged fs k zero f h = refl
unchanged fs k (suc n) f h =
    let other : n ≢ k = omega arith in
    let below : n ≤ k = omega arith in
    let here : get_or (set fs k f) n empty ≡ get_or fs n empty = get_or-set_other fs k n f empty other in
    rw (here, unchanged fs k n f below) refl

pub one_more : (fs : List Frame) (n : ℕ) (f : Frame) → n < length fs → frames_below (set fs n f) (n + 1) ≡ f ∷ frames_below fs n
one_more fs n f h =
    let e : n + 1 ≡ suc n = omega arith in
    let here : get_or (set fs n f) n empty ≡ f = get_or-set_same fs n f empty h in
    rw e (rw (here, unchanged fs n n f (omega arith)) refl)

pub how_many : (fs : List Frame) (n : ℕ) → length (frames_below fs n) ≡ n
how_many fs zero = refl
how_many fs (suc n) = ap suc (how_many fs n)
