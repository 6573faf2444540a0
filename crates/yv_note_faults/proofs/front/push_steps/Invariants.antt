use Rattle.std.proofs.Common.{◌≡◌, ◌++◌, take, string_bytes}
use Rattle.yv_data_faults.specs.Line.{places_text}
use Rattle.yv_data_faults.specs.Part.{steps_of}
use Rattle.yv_note_faults.proofs.front.push_steps.Given as goal

abbrev pub invariant-loop-step : goal.invariant-loop-step
invariant-loop-step l = string_bytes l.text ≡ string_bytes l.fn.text ++ places_text (steps_of (take l.step-index l.path))
