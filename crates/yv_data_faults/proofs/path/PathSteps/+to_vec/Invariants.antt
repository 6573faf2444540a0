use Rattle.std.proofs.Common.{length}
use Rattle.yv_data_faults.proofs.path.PathSteps.+to_vec.Given as goal

abbrev pub decreases-to_vec : goal.decreases-to_vec
decreases-to_vec l = length l.self.now
