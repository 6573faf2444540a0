use Rattle.std.proofs.Common.{◌≡◌, ◌∙◌, Some, ap}
use Rattle.yv_base_numbers.specs.Numbers.{integer, integer_of}
use Rattle.yv_base_numbers.specs.Entries.{whole_number}
use Rattle.yv_base_numbers.proofs.RestrictionWholes.{number_read, number_unread, some_held, none_held}
use Rattle.yv_base_numbers.proofs.stated_numbers.whole_number.Goals as goal

pub returns-in_err-integer_of-clause-none : goal.returns-in_err-integer_of-clause-none
returns-in_err-integer_of-clause-none c =
    rw c.from_residual.ensures (λ n h. number_unread c.args.text.now n (c.in_err-integer_of.ensures ∙ ap integer_of c.as_bytes.ensures.value) h)

pub returns-clause-some : goal.returns-clause-some
returns-clause-some c =
    let read : whole_number c.args.text.now ≡ Some (integer c.in_ok-integer_of.field-0) = number_read c.args.text.now _ (c.in_ok-integer_of.ensures ∙ ap integer_of c.as_bytes.ensures.value) in
    some_held _ _ _ c.number_in_range.ensures read

pub returns-clause-none : goal.returns-clause-none
returns-clause-none c =
    let read : whole_number c.args.text.now ≡ Some (integer c.in_ok-integer_of.field-0) = number_read c.args.text.now _ (c.in_ok-integer_of.ensures ∙ ap integer_of c.as_bytes.ensures.value) in
    none_held _ _ _ c.number_in_range.ensures read
