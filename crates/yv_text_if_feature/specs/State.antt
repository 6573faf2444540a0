-- What is known of an expression of which the front was read, and the truth to which the words that
-- follow complete it (RFC 7950, section 7.20.2).
use Rattle.std.specs.Prelude.{ℕ, Bool, true, false, not, ◌&&◌, ◌||◌, nat_lt, if◌then◌else◌}
use Rattle.std.specs.Prelude.{List, [], ◌∷◌, length, Option, Some, None}
use Rattle.yv_text_if_feature.specs.Tokens.{Token}
use Rattle.yv_text_if_feature.specs.Tokens as token
use Rattle.yv_text_if_feature.specs.declared.frame.Frame.{Frame}

-- what is known: whether a word was where it may not, whether an operand comes next, and of the
-- terms and factors that were read inside the innermost parenthesis and outside of each what they
-- come to so far
pub record State : Type 0 where
  pub is_lost : Bool
  pub wants_operand : Bool
  pub frame : Frame
  pub outside : List Frame

-- nothing was read of an expression
abbrev pub empty : Frame
empty = record { earlier = false; term = true; negated = false }

-- whether what is read holds
abbrev pub holds : Frame → Bool
holds f = f.earlier || f.term

-- a factor's truth, perhaps turned round
abbrev pub differ : Bool → Bool → Bool
differ true b = not b
differ false b = b

-- one more factor was read
abbrev pub with_factor : Bool → Frame → Frame
with_factor b f =
    record { earlier = f.earlier; term = f.term && differ f.negated b; negated = false }

-- one more `not` was read
abbrev pub with_not : Frame → Frame
with_not f = record { earlier = f.earlier; term = f.term; negated = not f.negated }

-- one more `or` was read
abbrev pub with_or : Frame → Frame
with_or f = record { earlier = f.earlier || f.term; term = true; negated = false }

-- the truth to which what follows completes an expression, where an operand is wanted or not,
-- inside the innermost parenthesis and outside of each
abbrev pub ends : (List ℕ → Bool) → Bool → Frame → List Frame → List Token → Option Bool
ends names true f fs (token.Name n ∷ ts) = ends names false (with_factor (names n) f) fs ts
ends names true f fs (token.Not ∷ ts) = ends names true (with_not f) fs ts
ends names true f fs (token.Open ∷ ts) =
    if nat_lt (length fs) 64 then ends names true empty (f ∷ fs) ts else None
ends names false f fs (token.And ∷ ts) = ends names true f fs ts
ends names false f fs (token.Or ∷ ts) = ends names true (with_or f) fs ts
ends names false f (g ∷ fs) (token.Close ∷ ts) = ends names false (with_factor (holds f) g) fs ts
ends names false f [] [] = Some (holds f)
ends names wanted f fs ts = None

-- the truth to which these words complete what is known
abbrev pub completion : (List ℕ → Bool) → State → List Token → Option Bool
completion names e rest =
    if e.is_lost then None else ends names e.wants_operand e.frame e.outside rest
