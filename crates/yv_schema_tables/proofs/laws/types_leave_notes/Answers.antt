use Rattle.yv_schema_tables.proofs.TypeReplacement.{all_notes}
use Rattle.yv_schema_tables.proofs.laws.types_leave_notes.Goals as goal

pub returns : goal.returns
returns c = λ types nodes top limit modules notes are. all_notes types nodes top limit modules notes are
