use Rattle.std.proofs.Common.{◌≡◌, ℕ, codes, take}
use Rattle.yv_link_scopes.specs.Views.{rows_in}
use Rattle.yv_link_definitions.specs.References.{number_at}
use Rattle.yv_link_definitions.specs.Places.{placed_in}
use Rattle.yv_link_definitions.proofs.type_places.places_of_types.Given as goal

abbrev pub invariant-loop-number : goal.invariant-loop-number
invariant-loop-number l = (f o : ℕ) → placed_in l.places f o ≡ number_at (take l.number (rows_in l.rows)) (codes "type") f o
