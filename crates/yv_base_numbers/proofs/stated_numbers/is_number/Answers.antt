use Rattle.std.proofs.Common.{◌≡◌, true, arith}
use Rattle.std.proofs.lemmas.Int.{ints}
use Rattle.yv_base_numbers.specs.Entries.{whole_number}
use Rattle.yv_base_numbers.specs.InnerStatedNumbers.{fits}
use Rattle.yv_base_numbers.proofs.RestrictionWholes.{other_number}
use Rattle.yv_base_numbers.proofs.stated_numbers.is_number.Goals as goal

pub returns-in-None : goal.returns-in-None
returns-in-None c =
    let range = c.ranges.number in
    let small : fits c.args.number ≡ true = grind (arith, ints) in
    other_number (whole_number c.args.text.now) c.args.number small c.in-None.ensures.none
