use Rattle.yv_expand_laws.proofs.MisplacementsJoined.{misplacements_are_one}
use Rattle.yv_expand_laws.proofs.laws.misplacements_are_one.Goals as goal

pub returns : goal.returns
returns c = λ files. misplacements_are_one files (c.misplacements_by_modules_are_one.ensures files) (c.misplacements_by_uses_are_one.ensures files)
