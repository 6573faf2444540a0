use Rattle.std.proofs.Common.{refl}
use Rattle.yv_run.specs.Runs.{front}
use Rattle.yv_run.proofs.output.write_output.Goals as goal

pub returns-else-write_body-clause-writes : goal.returns-else-write_body-clause-writes
returns-else-write_body-clause-writes g c =
    let part = c.write_body.ensures.part in
    front part.0 part.1 refl
