use Rattle.std.proofs.Common.{take}
use Rattle.yv_base_numbers.specs.InnerEarlierEntries.{Tells, IsLeastBelow}
use Rattle.yv_base_numbers.specs.Numberings.{keep_numbers, is_wrong_in, IsWrongAt, table_of}
use Rattle.yv_base_numbers.proofs.numbering.Numbering.derive.Given as goal

abbrev pub invariant-loop-at : goal.invariant-loop-at
invariant-loop-at l = record {
  tells : Tells l.numbering (keep_numbers (table_of l.self) (take l.at l.entries));
  least : IsLeastBelow (IsWrongAt (keep_numbers (table_of l.self)) (is_wrong_in (table_of l.self)) l.entries) l.at l.first_wrong;
}
