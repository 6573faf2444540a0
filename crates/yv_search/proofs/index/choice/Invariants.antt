use Rattle.std.proofs.Common.{◌≡◌, ◌≤◌, length, drop, map}
use Rattle.std.specs.Option.{option_map}
use Rattle.yv_search.specs.InnerIndex.{candidate_of, chosen_of, text_of}
use Rattle.yv_search.proofs.index.choice.Given as goal

abbrev pub invariant-loop-left : goal.invariant-loop-left
invariant-loop-left l = record {
  within : l.left ≤ length l.rows;
  kept : option_map candidate_of l.kept ≡ chosen_of (text_of l.date) (map candidate_of (drop l.left l.rows));
}

abbrev pub decreases-loop-left : goal.decreases-loop-left
decreases-loop-left l = l.left
