use Rattle.std.proofs.Common.{◌≡◌, ◌-◌, length, map, take}
use Rattle.yv_node_keys.specs.InnerShifts.{AreInside, moved_id}
use Rattle.yv_node_keys.proofs.shift.are_moved_to.Given as goal

-- those so far are so
abbrev pub invariant-loop-place : goal.invariant-loop-place
invariant-loop-place l = record {
  each : length l.ones ≡ length l.others;
  inside : AreInside l.shift (take l.place l.ones);
  are : take l.place l.others ≡ map (moved_id l.shift.by) (take l.place l.ones);
}

abbrev pub decreases-loop-place : goal.decreases-loop-place
decreases-loop-place l = length l.ones - l.place
