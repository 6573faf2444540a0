use Rattle.std.proofs.Common.{◌≡◌, ◌≤◌, ◌==◌, length, drop, false}
use Rattle.std.specs.List.{list_any}
use Rattle.yv_search.specs.Listing.{slash}
use Rattle.yv_search.proofs.file_name.last_part.Given as goal

abbrev pub invariant-loop-start : goal.invariant-loop-start
invariant-loop-start l = record {
  within : l.start ≤ length l.path;
  clean : list_any (λ c. c == slash) (drop l.start l.path) ≡ false;
}

abbrev pub decreases-loop-start : goal.decreases-loop-start
decreases-loop-start l = l.start
