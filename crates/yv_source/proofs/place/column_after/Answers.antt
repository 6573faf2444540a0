use Rattle.std.proofs.Common.{◌-◌, length, take, drop, length-drop, arith}
use Rattle.std.proofs.lemmas.List.{length-take}
use Rattle.yv_source.proofs.ReadProgress.{columns_most}
use Rattle.yv_source.proofs.place.column_after.Goals as goal

pub returns-clause-bound : goal.returns-clause-bound
returns-clause-bound c =
    let front = c.args.front.now in
    let m = c.mark_len_of.result in
    omega (arith, c.requires, c.columns.ensures, columns_most 0 (take (length front - m) (drop m front)), length-take (length front - m) (drop m front), length-drop m front)
