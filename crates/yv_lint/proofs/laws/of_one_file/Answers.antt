use Rattle.yv_lint.proofs.SameFindings.{same_versions, without_versions}
use Rattle.yv_lint.proofs.laws.of_one_file.Goals as goal

pub returns : goal.returns
returns c = record { versions = same_versions; others = without_versions }
