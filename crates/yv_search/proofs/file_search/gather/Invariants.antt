use Rattle.std.proofs.Common.{◌-◌, length, map}
use Rattle.yv_base_streams.specs.Files.{file_of}
use Rattle.yv_search.specs.Listing.{folder_of, files_of}
use Rattle.yv_search.specs.InnerGather.{Underway}
use Rattle.yv_search.proofs.file_search.gather.Given as goal

abbrev pub invariant-loop-files : goal.invariant-loop-files
invariant-loop-files g l = Underway (files_of (map folder_of l.listing)) (g.S.Shelf.shelf l.fn.shelf) (g.S.Shelf.shelf l.shelf) (map file_of l.fn.named.items) (map file_of l.files.items) l.search

abbrev pub decreases-loop-files : goal.decreases-loop-files
decreases-loop-files g l = 256 - length l.files.items
