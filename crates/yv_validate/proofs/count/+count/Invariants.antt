use Rattle.std.proofs.Common.{◌≡◌, ◌+◌, ◌≤◌, min, drop}
use Rattle.serde_json.specs.View.{items_view, members_view}
use Rattle.yv_validate.specs.Size.{items_size, members_size}
use Rattle.yv_validate.proofs.count.+count.Given as goal

-- with the items that are left, the count is that of all
abbrev pub invariant-items_size-loop-item : goal.invariant-items_size-loop-item
invariant-items_size-loop-item l = record {
  within : l.total ≤ 18446744073709551615;
  counted : min (l.total + items_size (items_view (drop l.item-index l.item-items))) 18446744073709551615 ≡ min (items_size (items_view l.item-items)) 18446744073709551615;
}

-- the same for members
abbrev pub invariant-members_size-loop-member : goal.invariant-members_size-loop-member
invariant-members_size-loop-member l = record {
  within : l.total ≤ 18446744073709551615;
  counted : min (l.total + members_size (members_view l.member-iterator)) 18446744073709551615 ≡ min (members_size (members_view l.initial.member-iterator)) 18446744073709551615;
}
