use Rattle.std.proofs.Common.{◌≤◌, All, length}
use Rattle.yv_note_places.specs.Place.{IsPlace, IsPlaceOf}
use Rattle.yv_note_places.proofs.repeats.repeated_members.Given as goal

abbrev pub invariant-loop-offset : goal.invariant-loop-offset
invariant-loop-offset l = record {
  most : length l.repeats.items ≤ l.most;
  cursor : IsPlaceOf l.text l.cursor.offset l.cursor.place;
  positions : All (λ repeat. IsPlace l.text repeat.place) l.repeats.items;
}
