use Rattle.std.proofs.Common.{◌∙◌}
use Rattle.std.proofs.lemmas.Result.{IfOk-weaker}
use Rattle.yv_expand_augments.specs.Remains.{is_left}
use Rattle.yv_expand_augments.proofs.TreeRemains.{left_listed}
use Rattle.yv_expand_augments.proofs.remains.remaining_rows.Goals as goal

pub returns : goal.returns
returns c = λ t is. IfOk-weaker c.scan.result _ _ (λ rows h. h ∙ left_listed (is_left c.args.spots.now c.args.marks.now) t c.args.tree.now is) c.scan.ensures
