use Rattle.std.proofs.Common.{◌≡◌, length}
use Rattle.yv_base_tables.specs.Families.{by_place}
use Rattle.yv_base_tables.specs.InnerParts.{AreEnds, parts}
use Rattle.yv_base_tables.proofs.families.Families.new.Given as goal

abbrev pub invariant-loop-place : goal.invariant-loop-place
invariant-loop-place l = record {
  ends : AreEnds 0 l.ends.items (length l.numbers.items);
  parts : parts l.numbers.items 0 l.ends.items ≡ by_place l.places l.place;
}
