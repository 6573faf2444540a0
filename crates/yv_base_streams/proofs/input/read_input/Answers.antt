use Rattle.std.proofs.Common.{◌+◌, arith}
use Rattle.yv_base_streams.specs.Files.{file_limit}
use Rattle.yv_base_streams.proofs.StreamLemmas.{gave_up_to}
use Rattle.yv_base_streams.proofs.input.read_input.Goals as goal

pub returns-clause-bytes : goal.returns-clause-bytes
returns-clause-bytes g c =
    let read = c.in_ok-bytes.ensures in
    gave_up_to _ _ _ (file_limit + 1) read.gives (omega (arith, read.bound)) (λ h. read.end (omega (arith, h)))
