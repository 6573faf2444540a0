use Rattle.std.proofs.Common.{◌≡◌, ℕ, nat_eq, nat_lt}
use Rattle.std.specs.List.{list_any}
use Rattle.yv_type_identities.proofs.lists.up_to.Given as goal

abbrev pub invariant-loop-number : goal.invariant-loop-number
invariant-loop-number l = (number : ℕ) → list_any (nat_eq number) l.numbers.items ≡ nat_lt number l.number
