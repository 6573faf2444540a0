use Rattle.yv_search.proofs.RoleLeast.{closed_hold, not_there}
use Rattle.yv_search.proofs.RoleMarks.{marks_tell}
use Rattle.yv_search.proofs.laws.required_is_least.Goals as goal

pub returns-clause-least : goal.returns-clause-least
returns-clause-least c = closed_hold

pub returns-clause-outside : goal.returns-clause-outside
returns-clause-outside c = not_there
