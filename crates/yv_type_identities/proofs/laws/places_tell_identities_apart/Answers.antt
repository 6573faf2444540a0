use Rattle.yv_type_identities.proofs.Apart.{below_derived, derived_below}
use Rattle.yv_type_identities.proofs.laws.places_tell_identities_apart.Goals as goal

pub returns : goal.returns
returns c files rows place base apart = (below_derived files rows place base apart, derived_below files rows place base)
