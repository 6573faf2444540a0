use Rattle.std.proofs.Common.{rules}
use Rattle.std.proofs.lemmas.List.Elements.{All-push, All-same}
use Rattle.yv_note_places.specs.Place.{IsFound}
use Rattle.yv_note_places.proofs.places.KnownPlaces.found_places.Goals as goal

pub loop-find-preserved : goal.loop-find-preserved
loop-find-preserved c = record {
  positions = λ text all. All-same (IsFound text) _ _ c.in_ok-push.ensures.items (All-push (IsFound text) _ _ (c.loop-find.invariant.positions text all) (c.found_place.ensures text all));
  count = search rules;
}
