use Rattle.std.proofs.Common.{◌≡◌, ◌++◌, false, length, string_bytes}
use denote.Text.{Utf8}
use denote.Shadow.{shadow}
use Rattle.yv_text_path.specs.InnerBrackets.{outside}
use Rattle.yv_text_path.proofs.bare.outside_brackets.Given as goal

-- with what is outside of brackets in what is left, this is all; what is left is text
abbrev pub invariant-loop-steps : goal.invariant-loop-steps
invariant-loop-steps l = shadow (Utf8 l.rest) × (string_bytes l.path ++ outside false l.rest ≡ outside false l.text)

abbrev pub decreases-loop-steps : goal.decreases-loop-steps
decreases-loop-steps l = length l.rest
