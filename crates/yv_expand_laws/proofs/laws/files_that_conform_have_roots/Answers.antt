use Rattle.yv_expand_laws.proofs.FileConformance.{conform, have_roots}
use Rattle.yv_expand_laws.proofs.laws.files_that_conform_have_roots.Goals as goal

pub returns : goal.returns
returns c = λ files none. have_roots files (conform c.what_is_not_refused_fits.ensures files none)
