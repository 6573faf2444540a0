use Rattle.std.proofs.Common.{◌≡◌, ◌<◌, ℕ, true, Some}
use Rattle.std.specs.List.{slice_get}
use Rattle.yv_expand_rounds.specs.InnerHiddenNodes.{Hides, is_hidden}
use Rattle.yv_expand_rounds.proofs.hidden_nodes.HiddenNodes.hide_all.Given as goal

abbrev pub invariant-loop-item : goal.invariant-loop-item
invariant-loop-item l = record {
  hidden : (place item : ℕ) → place < l.item-index → slice_get l.items place ≡ Some item → is_hidden l.self.marks.items item ≡ true;
  hides : Hides l.fn.self.marks.items l.self.marks.items l.fn.found.items l.found.items;
}
