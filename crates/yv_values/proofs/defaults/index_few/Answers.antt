use Rattle.std.proofs.Common.{sym, arith}
use Rattle.yv_values.proofs.Alone.{same_of_few}
use Rattle.yv_values.proofs.defaults.index_few.Goals as goal

pub returns-then-values-lt2-clause-repeats : goal.returns-then-values-lt2-clause-repeats
returns-then-values-lt2-clause-repeats c = let few = c.if-values-lt2.true in sym (same_of_few c.args.values.now (omega (arith, few)))
