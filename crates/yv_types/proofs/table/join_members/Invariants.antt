use Rattle.std.proofs.Common.{◌≡◌, [], drop, map}
use Rattle.yv_values.specs.Types.{plain_of}
use Rattle.yv_types.specs.InnerTables.{joined_from}
use Rattle.yv_types.proofs.table.join_members.Given as goal

abbrev pub invariant-loop-member : goal.invariant-loop-member
invariant-loop-member l = joined_from l.spaces (map plain_of l.all.items) (drop l.member-index l.members) ≡ joined_from l.spaces [] l.members
