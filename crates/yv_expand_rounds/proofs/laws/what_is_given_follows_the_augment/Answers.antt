use Rattle.yv_expand_rounds.proofs.ItemStability.{rounds_follow, turn_follows}
use Rattle.yv_expand_rounds.proofs.laws.what_is_given_follows_the_augment.Goals as goal

pub returns-clause-turns : goal.returns-clause-turns
returns-clause-turns c = λ labels number start limit augment item names st room fits lt is.
    turn_follows labels item augment number start limit names st room lt is

pub returns-clause-applies : goal.returns-clause-applies
returns-clause-applies c = rounds_follow
