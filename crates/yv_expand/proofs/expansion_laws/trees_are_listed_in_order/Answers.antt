use Rattle.yv_expand.proofs.ItemListing.{count_joined, listed_joined}
use Rattle.yv_expand.proofs.expansion_laws.trees_are_listed_in_order.Goals as goal

-- src/laws.rt:11:1
pub returns-clause-count : goal.returns-clause-count
returns-clause-count g c = count_joined

-- src/laws.rt:11:1
pub returns-clause-lists : goal.returns-clause-lists
returns-clause-lists g c = listed_joined
