use Rattle.std.proofs.Common.{take}
use Rattle.yv_link_scopes.specs.InnerDefinitions.{ArePlaces}
use Rattle.yv_link_scopes.specs.Views.{rows_in}
use Rattle.yv_link_scopes.proofs.kind.definition_places.Given as goal

abbrev pub invariant-loop-number : goal.invariant-loop-number
invariant-loop-number l = ArePlaces (take l.number (rows_in l.rows)) l.places
