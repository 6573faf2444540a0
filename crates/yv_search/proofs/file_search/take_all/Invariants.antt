use Rattle.std.proofs.Common.{List, [], map, take}
use Rattle.yv_base_streams.specs.Files.{file_of}
use Rattle.yv_search.specs.Listing.{ListedFile}
use Rattle.yv_search.specs.InnerSearch.{IsAt}
use Rattle.yv_search.specs.InnerGather.{Begins}
use Rattle.yv_search.proofs.file_search.take_all.Given as goal

abbrev pub invariant-loop-input : goal.invariant-loop-input
invariant-loop-input l = (listing : List ListedFile) → IsAt listing l.fn.search (record { files = []; sought = [] }) → Begins listing (take l.input-index (map file_of l.named)) l.search
