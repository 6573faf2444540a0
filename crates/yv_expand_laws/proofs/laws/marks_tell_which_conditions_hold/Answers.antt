use Rattle.yv_expand_laws.proofs.StatementMarks.{marks_are_conditions}
use Rattle.yv_expand_laws.proofs.laws.marks_tell_which_conditions_hold.Goals as goal

pub returns : goal.returns
returns c = marks_are_conditions
