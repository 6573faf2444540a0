use Rattle.std.proofs.Common.{List, ◌-◌, length}
use Rattle.yv_search.specs.Listing.{ListedFile}
use Rattle.yv_search.specs.Search.{State}
use Rattle.yv_search.specs.InnerSearch.{IsAt, Comes}
use Rattle.yv_search.proofs.search.Search.next.Given as goal

abbrev pub invariant-loop-self : goal.invariant-loop-self
invariant-loop-self l = (listing : List ListedFile) (s : State) → IsAt listing l.fn.self s → Comes listing s l.self

abbrev pub decreases-loop-self : goal.decreases-loop-self
decreases-loop-self l = length l.self.wants.items - l.self.cursor
