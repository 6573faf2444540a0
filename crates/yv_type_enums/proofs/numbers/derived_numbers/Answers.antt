use Rattle.std.proofs.Common.{◌∙◌, ap, subst}
use Rattle.yv_base_numbers.specs.Numberings.{IsFirstWrong, is_wrong_in, keep_numbers, number_in, table_of}
use Rattle.yv_type_enums.proofs.numbers.derived_numbers.Goals as goal

pub returns-clause-numbers : goal.returns-clause-numbers
returns-clause-numbers c =
    let same = c.deref.ensures.value ∙ c.in_ok-entries.ensures in
    λ s. c.in_ok-found.ensures.numbers s ∙ ap (λ es. number_in (keep_numbers (table_of c.args.base.now) es) s) same

pub returns-clause-wrong : goal.returns-clause-wrong
returns-clause-wrong c =
    let base = table_of c.args.base.now in
    let same = c.deref.ensures.value ∙ c.in_ok-entries.ensures in
    subst (λ es. IsFirstWrong (keep_numbers base) (is_wrong_in base) es c.in_ok-found.found.first_wrong) same c.in_ok-found.ensures.wrong
