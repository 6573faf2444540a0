use Rattle.std.proofs.Common.{◌≡◌, length, map, take}
use Rattle.yv_link_scopes.specs.Views.{rows_in}
use Rattle.yv_schema.specs.InnerResolution.{statement_number}
use Rattle.yv_schema.proofs.leafrefs.statement_numbers.Given as goal

abbrev pub invariant-loop-origin : goal.invariant-loop-origin
invariant-loop-origin l = l.numbers.items ≡ map (statement_number (length (rows_in l.rows))) (take l.origin-index l.origins)
