use Rattle.std.proofs.Common.{◌≡◌, take}
use Rattle.yv_schema.specs.InnerRows.{numbers_at}
use Rattle.yv_schema.proofs.tree.numbers_at.Given as goal

abbrev pub invariant-loop-place : goal.invariant-loop-place
invariant-loop-place l = l.numbers.items ≡ numbers_at (take l.place-index l.places)
