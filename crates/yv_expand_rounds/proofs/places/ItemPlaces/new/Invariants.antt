use Rattle.std.proofs.Common.{◌≡◌, ◌+◌, length}
use Rattle.yv_expand_rounds.proofs.Empty.{AreEmpty}
use Rattle.yv_expand_rounds.proofs.places.ItemPlaces.new.Given as goal

abbrev pub invariant-loop : goal.invariant-loop
invariant-loop l = (length l.groups.items ≡ l.counter) × AreEmpty l.groups.items

abbrev pub invariant-loop-2 : goal.invariant-loop-2
invariant-loop-2 l = (length l.groups.items ≡ length l.labels.items + 1 + l.counter) × AreEmpty l.groups.items
