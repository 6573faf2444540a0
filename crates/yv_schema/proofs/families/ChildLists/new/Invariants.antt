use Rattle.std.proofs.Common.{◌≡◌, [], replicate}
use Rattle.yv_schema.specs.Families.{lists_of}
use Rattle.yv_schema.proofs.families.ChildLists.new.Given as goal

abbrev pub invariant-loop : goal.invariant-loop
invariant-loop l = lists_of l.below.items ≡ replicate l.counter []
