use Rattle.yv_expand.proofs.ItemListing.{length_listed}
use Rattle.yv_expand.proofs.expansion_laws.a_tree_is_listed_whole.Goals as goal

-- src/laws.rt:6:1
pub returns : goal.returns
returns g c = length_listed
