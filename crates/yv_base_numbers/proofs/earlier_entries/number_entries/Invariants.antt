use Rattle.std.proofs.Common.{take}
use Rattle.yv_base_numbers.specs.InnerEarlierEntries.{Keeps, IsLeastBelow}
use Rattle.yv_base_numbers.specs.Numberings.{number_entries, is_wrong, IsWrongAt}
use Rattle.yv_base_numbers.proofs.earlier_entries.number_entries.Given as goal

abbrev pub invariant-loop-at : goal.invariant-loop-at
invariant-loop-at l = record {
  keeps : Keeps l.seen (number_entries l.kind (take l.at l.entries));
  least : IsLeastBelow (IsWrongAt (number_entries l.kind) (is_wrong l.kind) l.entries) l.at l.first_wrong;
}
