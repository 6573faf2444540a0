use Rattle.std.proofs.Common.{ℕ, List, ◌++◌, take}
use Rattle.yv_expand_rounds.specs.InnerGroups.{IsGroup, Keep, firsts}
use Rattle.yv_expand_rounds.proofs.group.Group.join.Given as goal

abbrev pub invariant-loop-item : goal.invariant-loop-item
invariant-loop-item l = record {
  state : (members : List ℕ) → IsGroup l.labels members l.fn.self → IsGroup l.labels (members ++ take l.item-index l.items) l.self;
  keeps : (members : List ℕ) → IsGroup l.labels members l.fn.self
      → Keep (firsts l.labels members) (firsts l.labels (members ++ take l.item-index l.items)) l.displaced.items;
}
