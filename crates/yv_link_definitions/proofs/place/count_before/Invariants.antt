use Rattle.std.proofs.Common.{◌-◌, ◌≡◌, ◌<◌, ◌≤◌, ℕ, Some, true, false, length}
use Rattle.std.specs.List.{slice_get}
use Rattle.yv_link_definitions.specs.InnerOrder.{is_before}
use Rattle.yv_link_definitions.specs.declared.place.Place.{Place}
use Rattle.yv_link_definitions.proofs.place.count_before.Given as goal

abbrev pub invariant-loop-low : goal.invariant-loop-low
invariant-loop-low l = record {
  order : l.low ≤ l.high;
  within : l.high ≤ length l.places;
  below : (k : ℕ) (p : Place) → k < l.low → slice_get l.places k ≡ Some p → is_before p l.file l.offset ≡ true;
  above : (k : ℕ) (p : Place) → l.high ≤ k → slice_get l.places k ≡ Some p → is_before p l.file l.offset ≡ false;
}

abbrev pub decreases-loop-low : goal.decreases-loop-low
decreases-loop-low l = l.high - l.low
