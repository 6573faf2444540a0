use Rattle.std.proofs.Common.{◌≤◌, length}
use Rattle.yv_note_faults.proofs.front.left_out.Given as goal

abbrev pub invariant-loop-step : goal.invariant-loop-step
invariant-loop-step l = l.first ≤ length l.path
