use Rattle.std.proofs.Common.{length}
use Rattle.yv_json_lines.proofs.steps.+put_steps.Given as goal

abbrev pub decreases-put_steps : goal.decreases-put_steps
decreases-put_steps g l = length l.path.now
