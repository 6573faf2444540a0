use Rattle.yv_expand_laws.proofs.CopyEnds.{copies_end}
use Rattle.yv_expand_laws.proofs.laws.a_copy_ends_where_its_turn_led.Goals as goal

pub returns : goal.returns
returns c = copies_end c.entering_keeps_groups.ensures.augments
