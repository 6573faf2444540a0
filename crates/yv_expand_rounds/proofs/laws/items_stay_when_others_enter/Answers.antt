use Rattle.yv_expand_rounds.proofs.ItemStability.{enters, stays}
use Rattle.yv_expand_rounds.proofs.laws.items_stay_when_others_enter.Goals as goal

pub returns-clause-enters : goal.returns-clause-enters
returns-clause-enters c = enters

pub returns-clause-stays : goal.returns-clause-stays
returns-clause-stays c = stays
