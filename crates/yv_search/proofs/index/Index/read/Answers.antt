use Rattle.std.proofs.Common.{map}
use Rattle.yv_search.specs.Listing.{folder_of}
use Rattle.yv_search.specs.InnerIndex.{group_of}
use Rattle.yv_search.proofs.ListSteps.{get_map}
use Rattle.yv_search.proofs.Groups.{folder_more}
use Rattle.yv_search.proofs.index.Index.read.Goals as goal

pub loop-number-preserved : goal.loop-number-preserved
loop-number-preserved c = λ q.
    folder_more q (map folder_of c.args.listing.now) c.loop-number.number (folder_of c.index-listing-number.result) (group_of c.loop-number.index q) (group_of c.add_folder.new.self q)
    (get_map folder_of c.args.listing.now c.loop-number.number c.index-listing-number.result c.loop-number-test.true c.index-listing-number.is) (c.loop-number.invariant q) (c.in_ok-add_folder.ensures q)
