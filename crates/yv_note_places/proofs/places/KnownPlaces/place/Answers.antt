use Rattle.std.proofs.Common.{All, List, subst, sym}
use Rattle.std.proofs.lemmas.Bool.{ltb-true}
use Rattle.yv_note_places.specs.Place.{IsPlace}
use Rattle.yv_note_places.specs.declared.places.LineColumn.{LineColumn}
use Rattle.yv_note_places.proofs.places.KnownPlaces.place.Goals as goal

pub returns-in-Some : goal.returns-in-Some
returns-in-Some c = λ text all.
    let place : LineColumn = c.in-Some.place.now in
    let each : All (IsPlace text) c.deref-2.result.now = subst (λ (xs : List LineColumn). All (IsPlace text) xs) (sym c.deref-2.ensures.value) all in
    subst (λ (x : LineColumn). IsPlace text x) (sym c.in-Some.ensures.lookup.1) (each c.unwrap_or-index.result place (ltb-true _ _ (sym c.in-Some.ensures.lookup.0)))
