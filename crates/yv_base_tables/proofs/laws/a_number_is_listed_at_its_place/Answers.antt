use Rattle.yv_base_tables.proofs.Listing.{listed_at}
use Rattle.yv_base_tables.proofs.laws.a_number_is_listed_at_its_place.Goals as goal

pub returns : goal.returns
returns c = listed_at
