use Rattle.std.proofs.Common.{◌∙◌, ap, subst}
use Rattle.yv_base_numbers.specs.Numberings.{IsFirstWrong, is_wrong, number_in, number_entries}
use Rattle.yv_type_enums.proofs.numbers.new_numbers.Goals as goal

pub returns-clause-numbers : goal.returns-clause-numbers
returns-clause-numbers c =
    let same = c.deref.ensures.value ∙ c.in_ok-entries.ensures in
    λ s. c.in_ok-found.ensures.numbers s ∙ ap (λ es. number_in (number_entries c.args.kind es) s) same

pub returns-clause-wrong : goal.returns-clause-wrong
returns-clause-wrong c =
    let same = c.deref.ensures.value ∙ c.in_ok-entries.ensures in
    subst (λ es. IsFirstWrong (number_entries c.args.kind) (is_wrong c.args.kind) es c.in_ok-found.found.first_wrong) same c.in_ok-found.ensures.wrong
