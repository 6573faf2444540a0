use Rattle.std.proofs.Common.{arith}
use Rattle.yv_expand_rounds.proofs.ItemStability.{rounds_other, turn_other}
use Rattle.yv_expand_rounds.proofs.laws.items_stay_below_their_nodes.Goals as goal

pub returns-clause-turns : goal.returns-clause-turns
returns-clause-turns c = λ labels number start limit group item names st room fits le is.
    turn_other labels item group number start limit names st (λ e. omega (arith, e, le)) is

pub returns-clause-applies : goal.returns-clause-applies
returns-clause-applies c = λ labels first group item paths old new are room fits le is. rounds_other labels first group item paths old new are fits le is
