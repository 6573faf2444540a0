use Rattle.yv_base_tables.proofs.Listing.{family_at}
use Rattle.yv_base_tables.proofs.laws.each_place_has_its_numbers.Goals as goal

pub returns : goal.returns
returns c = family_at
