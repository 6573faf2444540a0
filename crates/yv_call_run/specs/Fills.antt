-- What a call leaves in a buffer.
use Rattle.std.specs.Prelude.{◌≡◌, ◌-◌, ◌^◌, ℕ, List, ◌++◌, length, min}
use Rattle.yv_call.specs.Front.{front_of}
use Rattle.yv_call_run.specs.CallAnswers.{Answers}
use Rattle.yv_call_run.specs.Calls.{CallInput}

-- a length as far as it fits 64 bits
abbrev pub fitted_length : List ℕ → ℕ
fitted_length text = min (length text) (2 ^ 64 - 1)

-- The buffer has the output and right after it the note of a call, as far as there is room, and
-- then what it held; and this is how long they are.
pub record Fills (given : CallInput) (status output_length note_length : ℕ) (old new : List ℕ)
    : Type 0 where
  pub output : List ℕ
  pub note : List ℕ
  pub answers : Answers given status output note
  pub output_is : output_length ≡ fitted_length output
  pub note_is : note_length ≡ fitted_length note
  pub fills : new ≡ front_of (output ++ note) old
