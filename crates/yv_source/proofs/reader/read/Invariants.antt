use Rattle.std.proofs.Common.{◌-◌, ◌+◌, length, take}
use Rattle.std.specs.Prelude.{reverse}
use Rattle.yv_source.specs.Inner.Place.{place_at, AreCounted}
use Rattle.yv_source.proofs.Loop.{Reads}
use Rattle.yv_source.proofs.reader.read.Given as goal

abbrev pub invariant-loop-stack : goal.invariant-loop-stack
invariant-loop-stack l = Reads l.text (place_at l.text l.at) l.bad l.before (reverse l.stack.items) l.phase × AreCounted l.lines (take l.at l.text)

abbrev pub decreases-loop-stack : goal.decreases-loop-stack
decreases-loop-stack l = length l.text + 1 - l.at
