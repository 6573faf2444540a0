use Rattle.yv_expand_laws.proofs.WaitingAugments.{round_misses, round_takes, round_waits}
use Rattle.yv_expand_laws.proofs.laws.a_round_takes_what_leads_somewhere.Goals as goal

pub returns-clause-waits : goal.returns-clause-waits
returns-clause-waits c = round_waits

pub returns-clause-takes : goal.returns-clause-takes
returns-clause-takes c = round_takes

pub returns-clause-misses : goal.returns-clause-misses
returns-clause-misses c = round_misses
