use Rattle.std.proofs.Common.{◌≡◌, List, drop}
use Rattle.yv_expand_rounds.specs.declared.label.Label.{Label}
use Rattle.yv_expand_rounds.specs.declared.end.End.TheVariants.{Start}
use Rattle.yv_expand_rounds.specs.Groups.{Groups}
use Rattle.yv_expand_rounds.specs.Paths.{path_end}
use Rattle.yv_expand_rounds.specs.InnerGroups.{ArePlaces}
use Rattle.yv_expand_rounds.proofs.places.ItemPlaces.walk.Given as goal

abbrev pub invariant-loop-name : goal.invariant-loop-name
invariant-loop-name l = (labels : List Label) (groups : Groups) → ArePlaces labels groups l.self → path_end labels groups l.limit (drop l.name-index l.path) l.end ≡ path_end labels groups l.limit l.path (Start l.start)
