use Rattle.std.proofs.Common.{◌+◌, ap, ◌∙◌}
use Rattle.std.proofs.lemmas.List.{take_rest}
use Rattle.yv_source.specs.Place.{columns}
use Rattle.yv_source.proofs.ReadProgress.{columns_last}
use Rattle.yv_source.proofs.place.columns.Goals as goal

pub returns-in-Some : goal.returns-in-Some
returns-in-Some c = columns_last c.args.bytes.now c.in-Some.at 0 _ c.memrchr.result c.in-Some.is c.memrchr.ensures (c.columns_on.ensures ∙ ap (columns 0) (take_rest c.args.bytes.now (c.in-Some.at + 1)))
