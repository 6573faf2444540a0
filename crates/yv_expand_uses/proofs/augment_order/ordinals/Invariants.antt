use Rattle.std.proofs.Common.{◌≡◌, ℕ, ◌<◌, length, get_or}
use Rattle.std.specs.List.{slice_get}
use Rattle.yv_expand_uses.specs.AugmentOrder.{place_before}
use Rattle.yv_expand_uses.proofs.PlaceNumbers.{Counts}
use Rattle.yv_expand_uses.proofs.augment_order.ordinals.Given as goal

abbrev pub invariant-loop-place : goal.invariant-loop-place
invariant-loop-place l = record {
  counts : Counts l.places l.place-index l.counts.items;
  each : length l.ordinals.items ≡ l.place-index;
  told : (a : ℕ) → a < l.place-index → get_or l.ordinals.items a 0 ≡ place_before l.places a (slice_get l.places a);
}
