use Rattle.std.proofs.Common.{◌≡◌, ℕ, List, All, length}
use Rattle.yv_note_places.specs.Place.{IsFound, IsPlace}
use Rattle.yv_note_places.proofs.places.KnownPlaces.found_places.Given as goal

abbrev pub invariant-loop-find : goal.invariant-loop-find
invariant-loop-find l = record {
  positions : (text : List ℕ) → All (IsPlace text) l.self.places.items → All (IsFound text) l.places.items;
  count : length l.places.items ≡ l.find-index;
}
