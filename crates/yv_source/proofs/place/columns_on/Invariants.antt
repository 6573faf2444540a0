use Rattle.std.proofs.Common.{◌≡◌, ◌≤◌, ◌*◌, drop}
use Rattle.yv_source.specs.Place.{columns}
use Rattle.yv_source.proofs.place.columns_on.Given as goal

abbrev pub invariant-loop-b : goal.invariant-loop-b
invariant-loop-b l = (columns l.column (drop l.b-index l.bytes) ≡ columns 0 l.bytes) × (l.column ≤ 8 * l.b-index)
