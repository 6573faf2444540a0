use Rattle.std.proofs.Common.{◌≡◌, All, length}
use Rattle.yv_note_places.specs.Place.{IsPlace, IsPlaceOf}
use Rattle.yv_note_places.proofs.cursor.places_of.Given as goal

abbrev pub invariant-loop-offset : goal.invariant-loop-offset
invariant-loop-offset l = record {
  cursor : IsPlaceOf l.text l.cursor.offset l.cursor.place;
  places : All (IsPlace l.text) l.places.items;
  count : length l.places.items ≡ l.offset-index;
}
