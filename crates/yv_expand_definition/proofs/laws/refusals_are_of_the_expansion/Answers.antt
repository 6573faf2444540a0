use Rattle.std.proofs.Common.{◌≡◌, subst}
use Rattle.yv_expand_statements.specs.FileOrder.{marks_of, order_of}
use Rattle.yv_expand_definition.specs.Refusals.{IsWrong}
use Rattle.yv_expand_definition.proofs.Meaning.{refers_to_one}
use Rattle.yv_expand_definition.proofs.ExpansionUniqueness.{expand_one}
use Rattle.yv_expand_definition.proofs.laws.refusals_are_of_the_expansion.Goals as goal

pub returns : goal.returns
returns c = λ choice files m f is bad.
    let made : bad.made ≡ m =
    expand_one files (refers_to_one c.a_name_means_one_thing.ensures files) (marks_of choice files) (order_of choice files) bad.made m bad.expand is in
    (bad.wrong, subst (λ x. IsWrong files x bad.wrong) made bad.is_wrong, bad.row, bad.at, bad.is)
