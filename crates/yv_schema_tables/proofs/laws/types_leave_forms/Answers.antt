use Rattle.std.proofs.Common.{[], refl}
use Rattle.yv_schema_tables.proofs.TypeReplacement.{formed}
use Rattle.yv_schema_tables.proofs.laws.types_leave_forms.Goals as goal

pub returns : goal.returns
returns c = λ modules types ts are. formed modules types [] [] refl 0 ts are
