use Rattle.std.proofs.Common.{List, ◌+◌, ◌-◌, length}
use Rattle.yv_expand_rounds.specs.declared.label.Label.{Label}
use Rattle.yv_expand_rounds.specs.Groups.{Groups}
use Rattle.yv_expand_rounds.specs.InnerGroups.{ArePlaces}
use Rattle.yv_expand_rounds.specs.InnerHiddenNodes.{count_shown}
use Rattle.yv_expand_rounds.proofs.DisplacedNodes.{Spreading}
use Rattle.yv_expand_rounds.proofs.hidden_nodes.HiddenNodes.hide_below.Given as goal

abbrev pub invariant-loop-place : goal.invariant-loop-place
invariant-loop-place l = (labels : List Label) (groups : Groups) → ArePlaces labels groups l.places
    → Spreading groups l.fn.self.marks.items l.self.marks.items l.fn.found.items l.found.items l.place

abbrev pub decreases-loop-place : goal.decreases-loop-place
decreases-loop-place l = count_shown l.self.marks.items + (length l.found.items - l.place)
