use Rattle.yv_expand_laws.proofs.FileConformance.{conform, uses_are_optional}
use Rattle.yv_expand_laws.proofs.laws.uses_that_conform_are_optional.Goals as goal

pub returns : goal.returns
returns c = λ files none.
    uses_are_optional c.numbered_statements_fit.ensures c.statements_have_their_rows.ensures files (conform c.what_is_not_refused_fits.ensures files none)
