use Rattle.yv_link.proofs.Phases.{phases_from, phases_to}
use Rattle.yv_link.proofs.laws.links_have_phases.Goals as goal

pub returns-clause-first : goal.returns-clause-first
returns-clause-first c = phases_from

pub returns-clause-last : goal.returns-clause-last
returns-clause-last c = phases_to
