use Rattle.yv_base_numbers.specs.Entries.{whole_number}
use Rattle.yv_base_numbers.specs.Numberings.{next_number}
use Rattle.yv_base_numbers.proofs.RestrictionWholes.{far_stated}
use Rattle.yv_base_numbers.proofs.earlier_entries.number_of.Goals as goal

pub returns-in-Some-clause-none : goal.returns-in-Some-clause-none
returns-in-Some-clause-none c =
    rw c.in-Some.is (far_stated (whole_number c.in-Some.text.now) c.whole_number.result (next_number c.args.highest) c.whole_number.ensures.none)
