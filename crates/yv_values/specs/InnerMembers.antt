-- Only private clauses cite this: members with numbers.
use Rattle.std.specs.Prelude.{◌≡◌, ◌+◌, ℕ, List, Some, false, slice_get}
use Rattle.std.specs.Ordering.{is_lt}
use Rattle.yv_values.specs.Identities.{Id, id_cmp, id_of}
use Rattle.yv_values.specs.declared.members.Member.{Member}
use Rattle.yv_values.specs.declared.numbered_members.NumberedMember.{NumberedMember}

-- the identity of a member with a number
abbrev pub entry_id : NumberedMember → Id
entry_id m = id_of m.member

-- a member with the number 0
abbrev pub with_zero : Member → NumberedMember
with_zero m = record { member = m; number = 0 }

-- the one at a place doesn't come before the next
pub record HasStop (members : List NumberedMember) : Type 0 where
  pub place : ℕ
  pub one : NumberedMember
  pub next : NumberedMember
  pub here : slice_get members place ≡ Some one
  pub there : slice_get members (place + 1) ≡ Some next
  pub stops : is_lt (id_cmp (entry_id one) (entry_id next)) ≡ false
