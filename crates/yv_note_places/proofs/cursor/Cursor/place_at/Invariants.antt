use Rattle.yv_note_places.specs.Place.{IsPlaceOf}
use Rattle.yv_note_places.proofs.cursor.Cursor.place_at.Given as goal

abbrev pub invariant-loop : goal.invariant-loop
invariant-loop l = IsPlaceOf l.text l.fn.self.offset l.fn.self.place → IsPlaceOf l.text l.self.offset l.self.place
