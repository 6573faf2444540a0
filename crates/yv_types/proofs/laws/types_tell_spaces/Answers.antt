use Rattle.yv_types.proofs.PlacedPlainTypes.{all_told}
use Rattle.yv_types.proofs.laws.types_tell_spaces.Goals as goal

pub returns : goal.returns
returns c = λ files choice truth types are file offset. all_told files choice truth types are file offset
