use Rattle.std.proofs.Common.{◌≡◌, ℕ, List, take, ◌++◌}
use Rattle.yv_search.specs.Listing.{folder_of, files_in}
use Rattle.yv_search.specs.InnerIndex.{group_of, all_named}
use Rattle.yv_search.proofs.index.Index.add_folder.Given as goal

abbrev pub invariant-loop-path : goal.invariant-loop-path
invariant-loop-path l = (q : List ℕ) → group_of l.self q ≡ group_of l.initial.self q ++ all_named q (take l.path-index (files_in l.number (folder_of l.folder)))
