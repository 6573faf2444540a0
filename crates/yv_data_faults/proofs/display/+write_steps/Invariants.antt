use Rattle.std.proofs.Common.{length}
use Rattle.yv_data_faults.proofs.display.+write_steps.Given as goal

abbrev pub decreases-write_steps : goal.decreases-write_steps
decreases-write_steps g l = length l.path.now
