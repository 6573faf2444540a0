use Rattle.std.proofs.Common.{◌≡◌, ℕ, List, map, take}
use Rattle.yv_search.specs.Listing.{folder_of, files_of}
use Rattle.yv_search.specs.InnerIndex.{group_of, all_named}
use Rattle.yv_search.proofs.index.Index.read.Given as goal

abbrev pub invariant-loop-number : goal.invariant-loop-number
invariant-loop-number l = (q : List ℕ) → group_of l.index q ≡ all_named q (files_of (take l.number (map folder_of l.listing)))
